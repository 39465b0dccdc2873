use Rattle.std.proofs.Common.{ℕ, sym, ap, ◌∙◌}
use Rattle.std.specs.BTreeMap.{BTreeMap, keys}
use Rattle.std.proofs.lemmas.Result.{IfOk-weaker}
use Rattle.ordered_index.proofs.SlotLaws.{seen-keys}
use Rattle.ordered_index.proofs.slots.Slots.numbers.Goals as goal

pub returns : goal.returns
returns g c = record {
  numbers = IfOk-weaker c.numbers_in.result _ _ (λ numbers told.
      told c.self.inside.order c.self.invariant.are ∙ sym (seen-keys c.self.inside.slots c.self.inside.order c.self.invariant.are)
      ∙ ap (λ (m : BTreeMap ℕ g.row.L.Denot). keys m) c.self.view_is) c.numbers_in.ensures;
}
