use Rattle.std.proofs.Common.{ℕ, List, IsSome, sym, ap, ◌∙◌, subst}
use Rattle.std.specs.List.{AllByRecursion, filter_map}
use Rattle.std.specs.BTreeMap.{BTreeMap, values}
use Rattle.ordered_index.specs.Slots.{lease_at}
use Rattle.ordered_index.proofs.SlotLaws.{held-keys, seen-values}
use Rattle.ordered_index.proofs.slots.Slots.values.Goals as goal

pub invariant_of-result : goal.invariant_of-result
invariant_of-result g c =
    let all = c.in_ok-numbers.ensures c.self.inside.order c.self.invariant.are in
    subst (λ (ns : List ℕ). AllByRecursion (λ n. IsSome (lease_at c.self.inside.slots n)) ns) (sym all) (held-keys c.self.inside.slots c.self.inside.order c.self.invariant.are)

pub returns : goal.returns
returns g c = record {
  rest = ap (filter_map (lease_at c.self.inside.slots)) (c.in_ok-numbers.ensures c.self.inside.order c.self.invariant.are)
      ∙ seen-values c.self.inside.slots c.self.inside.order c.self.invariant.are ∙ ap (λ (m : BTreeMap ℕ g.row.L.Denot). values m) c.self.view_is;
}
