use Rattle.std.proofs.Common.{length, ◌+◌, ◌*◌}
use Rattle.job_workers.proofs.worker_threads.+workers.Given as goal

abbrev pub decreases-run_workers : goal.decreases-run_workers
decreases-run_workers g l = 3 * length l.desks.now

abbrev pub decreases-run_both : goal.decreases-run_both
decreases-run_both g l = 3 * length l.desks.now + 2

abbrev pub decreases-run_both-rest : goal.decreases-run_both-rest
decreases-run_both-rest g l = 3 * length l.desks.now + 1
