use Rattle.std.proofs.Common.{rules}
use Rattle.job_queue.proofs.QueueSteps.{meets, learns_rest}
use Rattle.job_queue.proofs.jobs.JobQueue.meet.Goals as goal

pub absorb-requires-clause-rule : goal.absorb-requires-clause-rule
absorb-requires-clause-rule c = meets _ _ _ _ (search rules) (search rules)

pub learn_as-requires-clause-rule : goal.learn_as-requires-clause-rule
learn_as-requires-clause-rule c = learns_rest _ _ (search rules)
