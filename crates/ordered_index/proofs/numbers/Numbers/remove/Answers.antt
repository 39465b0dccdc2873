use Rattle.std.specs.Prelude.{⊤}
use Rattle.std.proofs.Common.{ℕ, subst}
use Rattle.std.specs.Ordering.{nat_cmp}
use Rattle.std.specs.BTreeMap.{BTreeMap}
use Rattle.ordered_index.specs.MapSteps.{Removes}
use Rattle.ordered_index.specs.Slots.{order_of}
use Rattle.ordered_index.proofs.NumberLaws.{order-removes, ordered-removed}
use Rattle.ordered_index.proofs.numbers.Numbers.remove.Goals as goal

pub invariant_of-self : goal.invariant_of-self
invariant_of-self c = ordered-removed c.args.number c.self.inside.each c.note_less.new.each c.self.invariant c.note_less.ensures

pub returns : goal.returns
returns c =
    subst (λ (m : BTreeMap ℕ ⊤). Removes nat_cmp m (order_of c.note_less.new.each) c.args.number) c.self.view_is
    (order-removes c.args.number c.self.inside.each c.note_less.new.each c.self.invariant c.note_less.ensures)
