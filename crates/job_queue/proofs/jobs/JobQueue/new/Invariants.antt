use Rattle.std.specs.Prelude.{Some}
use Rattle.job_queue.proofs.jobs.JobQueue.new.Given as goal

abbrev pub ghosts-new_for : goal.ghosts-new_for
ghosts-new_for a = record { route = Some (record { config = a.config.now; shard = a.shard }) }
