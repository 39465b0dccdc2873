use Rattle.std.proofs.Common.{ℕ, ap, ◌∙◌}
use Rattle.std.specs.Ordering.{nat_cmp}
use Rattle.std.specs.BTreeMap.{BTreeMap, get}
use Rattle.ordered_index.proofs.SlotLaws.{lease-get}
use Rattle.ordered_index.proofs.slots.Slots.get.Goals as goal

pub returns : goal.returns
returns g c = record {
  value = c.find.ensures ∙ lease-get c.self.inside.slots c.self.inside.order c.self.invariant.are c.args.number.now
      ∙ ap (λ (m : BTreeMap ℕ g.row.L.Denot). get nat_cmp m c.args.number.now) c.self.view_is;
}
