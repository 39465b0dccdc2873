use Rattle.std.proofs.Common.{◌≡◌, sym, ◌∙◌}
use Rattle.lane_loops.specs.declared.loops.Turn.TheVariants as Turns
use Rattle.lane_loops.proofs.LaneLemmas.{turn_on}
use Rattle.lane_loops.proofs.loops.run_lane.Goals as goal

pub loop-preserved-in-Answered : goal.loop-preserved-in-Answered
loop-preserved-in-Answered g c = (
  tt,
  tt,
  turn_on c.do_turn.result _ _ _ c.loop.invariant.2 c.do_turn.ensures
      (λ over. absurd (let e : Turns.Answered ≡ Turns.Over = sym c.in-Answered.is ∙ over in cc)),
)

pub loop-preserved : goal.loop-preserved
loop-preserved g c = (
  tt,
  tt,
  turn_on c.do_turn.result _ _ _ c.loop.invariant.2 c.do_turn.ensures
      (λ over. absurd (let e : Turns.Quiet ≡ Turns.Over = sym c.in-Quiet.is ∙ over in cc)),
)
