use Rattle.std.proofs.Common.{rules}
use Rattle.job_queue.proofs.QueueSteps.{begins, parts}
use Rattle.job_queue.proofs.jobs.JobQueue.new_for.Goals as goal

pub ruled-requires-clause-rule : goal.ruled-requires-clause-rule
ruled-requires-clause-rule g c = begins

pub another-taking-requires-clause-rule : goal.another-taking-requires-clause-rule
another-taking-requires-clause-rule g c = parts _ _ _ (search rules) (search rules) (search rules) (search rules)
