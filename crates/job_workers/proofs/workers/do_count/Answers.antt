use Rattle.std.proofs.Common.{[], arith}
use Rattle.job_workers.proofs.WorkLemmas.{Works-unheard}
use Rattle.job_workers.proofs.workers.do_count.Goals as goal

pub returns-clause-works : goal.returns-clause-works
returns-clause-works g c sent faults = Works-unheard _ [] _ _ _ _ _ _ sent faults (omega arith) c.count_all-counted.ensures
