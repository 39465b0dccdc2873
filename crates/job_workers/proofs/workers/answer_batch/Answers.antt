use Rattle.std.proofs.Common.{rules}
use Rattle.job_workers.proofs.WorkLemmas.{answers_batch, lacks_batch}
use Rattle.job_workers.proofs.workers.answer_batch.Goals as goal

pub returns-in-Err : goal.returns-in-Err
returns-in-Err g c = lacks_batch _ _ _ _ _ _ _ _ _ _ _ _ _ c.moment_of-now.ensures c.now.ensures.time c.in-Err.ensures.refused c.count_refused.ensures c.requires.most

pub returns : goal.returns
returns g c =
    answers_batch _ _ _ _ _ _ _ _ _ _ _ _ _ _ _ _ _ c.saturating_sub-silent.result
    c.moment_of-now.ensures c.now.ensures.time c.in-Ok.ensures.served c.deref.ensures.value c.send_all-sends.ensures (search rules) c.count_replied.ensures c.requires.most
