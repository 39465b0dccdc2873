use Rattle.std.proofs.Common.{◌≡◌, ℕ, Some, IfSome, subst, ap, ◌∙◌}
use Rattle.std.specs.Ordering.{nat_cmp}
use Rattle.std.specs.BTreeMap.{BTreeMap, get}
use Rattle.ordered_index.proofs.SlotLaws.{slot-own, slot-told}
use Rattle.ordered_index.proofs.slots.Slots.in_slot.Goals as goal

pub returns-clause-held : goal.returns-clause-held
returns-clause-held g c =
    subst (λ (m : BTreeMap ℕ g.row.L.Denot). IfSome c.get.result (λ e. get nat_cmp m e.now.0 ≡ Some e.now.1)) c.self.view_is
    (slot-told c.self.inside.slots c.self.inside.order c.self.invariant.are c.args.slot c.get.result c.get.ensures)

pub returns-clause-own : goal.returns-clause-own
returns-clause-own g c =
    λ n lease there here. slot-own c.self.inside.slots c.self.inside.order c.self.invariant.are c.args.slot n lease c.get.result c.get.ensures
    (ap (λ (m : BTreeMap ℕ g.row.L.Denot). get nat_cmp m n) c.self.view_is ∙ there) here
