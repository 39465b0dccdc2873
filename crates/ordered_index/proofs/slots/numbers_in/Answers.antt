use Rattle.std.proofs.Common.{ℕ, List, subst}
use Rattle.std.specs.List.Sorted.{IsPermutation}
use Rattle.ordered_index.proofs.SlotNumbers.{sorted-numbers}
use Rattle.ordered_index.proofs.slots.numbers_in.Goals as goal

pub returns : goal.returns
returns g c order are =
    let sorted = c.sort_unstable.new.self.items in
    sorted-numbers c.args.slots.now order are sorted
    (subst (λ (ns : List ℕ). IsPermutation ns sorted) c.in_ok-numbers.ensures c.sort_unstable.ensures.permutation) c.sort_unstable.ensures.sorted
