use Rattle.job_workers.proofs.WorkLemmas.{loses_all, lacks_loss}
use Rattle.job_workers.proofs.workers.lose_all.Goals as goal

pub returns-in-Ok : goal.returns-in-Ok
returns-in-Ok g c = loses_all _ _ _ _ _ _ _ _ _ c.moment_of-now.ensures c.now.ensures.time c.in-Ok.ensures.lost c.count_lost.ensures

pub returns-in-Err : goal.returns-in-Err
returns-in-Err g c = lacks_loss _ _ _ _ _ _ _ _ _ _ c.moment_of-now.ensures c.now.ensures.time c.in-Err.ensures.refused c.count_refused.ensures
