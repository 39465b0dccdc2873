use Rattle.job_workers.proofs.WorkLemmas.{Works-batch}
use Rattle.job_workers.proofs.workers.do_batch.Goals as goal

pub returns-clause-works : goal.returns-clause-works
returns-clause-works g c = Works-batch _ _ _ _ _ c.items.ensures.value c.answer_batch-end.ensures
