use Rattle.std.proofs.Common.{rules}
use Rattle.job_queue.proofs.QueueSteps.{hears, takes, learns_rest}
use Rattle.job_queue.proofs.jobs.JobQueue.take.Goals as goal

pub absorb-requires-clause-rule : goal.absorb-requires-clause-rule
absorb-requires-clause-rule g c = hears _ _ _ _

pub pop_as-requires-clause-rule : goal.pop_as-requires-clause-rule
pop_as-requires-clause-rule g c = (takes _ _ (search rules), learns_rest _ _ (search rules))
