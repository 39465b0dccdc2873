use Rattle.job_workers.proofs.WorkLemmas.{HasWorked-append, HasWorked-none, IsDesk-after}
use Rattle.job_workers.proofs.work_loop.work.Goals as goal

pub loop-init : goal.loop-init
loop-init g c = (tt, tt, c.requires.desk, c.requires.batch, HasWorked-none _ _ _)

pub returns-then-is_over-clause-works : goal.returns-then-is_over-clause-works
returns-then-is_over-clause-works g c = HasWorked-append _ _ _ _ _ _ _ c.loop.invariant.4 c.do_round-dry.ensures.works

pub loop-preserved : goal.loop-preserved
loop-preserved g c = (
  tt,
  tt,
  IsDesk-after _ _ _ _ _ _ c.loop.invariant.2 c.do_round-dry.ensures.works,
  c.do_round-dry.ensures.batch,
  HasWorked-append _ _ _ _ _ _ _ c.loop.invariant.4 c.do_round-dry.ensures.works,
)
