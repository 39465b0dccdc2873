use Rattle.std.proofs.Common.{rules}
use Rattle.job_queue.proofs.QueueSteps.{tells_put}
use Rattle.job_queue.proofs.jobs.JobQueue.news_of_put.Goals as goal

pub another-pass-requires-clause-rule : goal.another-pass-requires-clause-rule
another-pass-requires-clause-rule c = tells_put _ _ (search rules)
