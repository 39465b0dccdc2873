use Rattle.std.proofs.Common.{◌≡◌, ℕ, false, sym, ◌∙◌}
use Rattle.slab.specs.Slab.{get}
use Rattle.ordered_index.specs.Ended.{has_ended}
use Rattle.ordered_index.specs.Slots.{holds}
use Rattle.ordered_index.proofs.DueSlots.{found_number, one_more_none, some_not_none}
use Rattle.ordered_index.proofs.due.ended_among.Goals as goal

pub loop-slot-preserved : goal.loop-slot-preserved
loop-slot-preserved g c =
    let l = c.loop-slot in
    one_more_none (λ (slot : ℕ). holds (has_ended g.L.Expires.expiry c.args.m) (get c.args.slots.now slot) ≡ false) c.args.from l.slot l.invariant
    (sym c.ended_at-found.ensures.tells ∙ sym c.is_some.ensures ∙ c.if-is_some.false)

pub returns-then-is_some-clause-number : goal.returns-then-is_some-clause-number
returns-then-is_some-clause-number g c =
    found_number g.L.Expires.expiry c.args.slots.now c.args.m c.loop-slot.slot c.ended_at-found.result c.ended_at-found.ensures.tells c.ended_at-found.ensures.number

pub returns-then-is_some-clause-none : goal.returns-then-is_some-clause-none
returns-then-is_some-clause-none g c = some_not_none _ c.ended_at-found.result (sym c.is_some.ensures ∙ c.if-is_some.true)
