use Rattle.std.proofs.Common.{rules}
use Rattle.job_queue.proofs.QueueSteps.{hears, puts, learns_last}
use Rattle.job_queue.proofs.jobs.JobQueue.put.Goals as goal

pub absorb-requires-clause-rule : goal.absorb-requires-clause-rule
absorb-requires-clause-rule g c = hears _ _ _ _

pub push_as-requires-clause-rule : goal.push_as-requires-clause-rule
push_as-requires-clause-rule g c = (puts _ _ _ _ (search rules) (search rules), learns_last _ _ (search rules))
