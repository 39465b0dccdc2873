use Rattle.job_workers.proofs.WorkLemmas.{IsDesk-met, finishes}
use Rattle.job_workers.proofs.finishing.finish.Goals as goal

pub work_off-requires-clause-desk : goal.work_off-requires-clause-desk
work_off-requires-clause-desk g c = IsDesk-met _ _ _ _ _ _ c.requires.desk c.requires.putter c.requires.route c.meet.ensures

pub returns : goal.returns
returns g c = finishes _ _ _ _ _ _ _ c.meet.ensures c.work_off.ensures.works c.work_off.ensures.all
