use Rattle.std.proofs.Common.{length}
use Rattle.job_dispatch.proofs.losses.+does_any_wait.Given as goal

abbrev pub decreases-does_any_wait : goal.decreases-does_any_wait
decreases-does_any_wait l = length l.ports.now
