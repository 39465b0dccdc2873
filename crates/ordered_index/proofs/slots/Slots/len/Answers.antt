use Rattle.std.proofs.Common.{ℕ, ap, ◌∙◌, subst}
use Rattle.std.specs.Ordering.{nat_cmp}
use Rattle.std.specs.BTreeMap.{BTreeMap, IsOrdered, btree_map_len}
use Rattle.ordered_index.proofs.SlotLaws.{seen-len, seen-ordered}
use Rattle.ordered_index.proofs.slots.Slots.len.Goals as goal

pub returns-clause-len : goal.returns-clause-len
returns-clause-len g c =
    c.len.ensures.len ∙ seen-len c.self.inside.slots c.self.inside.order c.self.invariant.are ∙ ap (λ (m : BTreeMap ℕ g.row.L.Denot). btree_map_len m) c.self.view_is

pub returns-clause-ordered : goal.returns-clause-ordered
returns-clause-ordered g c =
    subst (λ (m : BTreeMap ℕ g.row.L.Denot). IsOrdered nat_cmp m) c.self.view_is (seen-ordered c.self.inside.slots c.self.inside.order c.self.invariant.are)
