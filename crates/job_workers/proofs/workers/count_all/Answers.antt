use Rattle.job_workers.proofs.WorkLemmas.{counts_all, lacks_count}
use Rattle.job_workers.proofs.workers.count_all.Goals as goal

pub returns-in-Ok : goal.returns-in-Ok
returns-in-Ok g c = counts_all _ _ _ _ _ _ _ _ _ c.moment_of-now.ensures c.now.ensures.time c.in-Ok.ensures.served c.count_replied.ensures

pub returns-in-Err : goal.returns-in-Err
returns-in-Err g c = lacks_count _ _ _ _ _ _ _ _ _ _ c.moment_of-now.ensures c.now.ensures.time c.in-Err.ensures.refused c.count_refused.ensures
