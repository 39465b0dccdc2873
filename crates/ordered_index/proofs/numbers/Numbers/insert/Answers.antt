use Rattle.std.specs.Prelude.{⊤}
use Rattle.std.proofs.Common.{ℕ, subst}
use Rattle.std.specs.Ordering.{nat_cmp}
use Rattle.std.specs.BTreeMap.{BTreeMap}
use Rattle.ordered_index.specs.MapSteps.{Inserts}
use Rattle.ordered_index.specs.Slots.{order_of}
use Rattle.ordered_index.proofs.NumberLaws.{order-inserts, ordered-inserted}
use Rattle.ordered_index.proofs.numbers.Numbers.insert.Goals as goal

pub invariant_of-self : goal.invariant_of-self
invariant_of-self c = ordered-inserted c.args.number c.self.inside.each c.note_more.new.each c.self.invariant c.note_more.ensures

pub returns : goal.returns
returns c =
    subst (λ (m : BTreeMap ℕ ⊤). Inserts nat_cmp m (order_of c.note_more.new.each) c.args.number tt) c.self.view_is
    (order-inserts c.args.number c.self.inside.each c.note_more.new.each c.self.invariant c.note_more.ensures)
