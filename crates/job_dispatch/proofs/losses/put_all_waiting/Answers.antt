use Rattle.std.proofs.Common.{◌∙◌, arith}
use Rattle.job_dispatch.proofs.LossLemmas.{put_some}
use Rattle.job_dispatch.proofs.losses.put_all_waiting.Goals as goal

pub loop-preserved : goal.loop-preserved
loop-preserved g c =
    let so_far = c.loop.invariant.4 in
    let more = c.put_waiting.ensures.later in (
      tt,
      tt,
      put_some _ _ _ _ _ c.loop.invariant.2 c.put_waiting.ensures.late c.put_waiting.ensures.ports,
      c.put_waiting.ensures.left ∙ c.loop.invariant.3,
      omega (arith, so_far, more),
    )

pub returns-then-not-does_any_wait-clause-late : goal.returns-then-not-does_any_wait-clause-late
returns-then-not-does_any_wait-clause-late g c =
    let all = put_some _ _ _ _ _ c.loop.invariant.2 c.put_waiting.ensures.late c.put_waiting.ensures.ports in
    (all.shards, all.late)
