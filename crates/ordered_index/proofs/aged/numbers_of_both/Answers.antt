use Rattle.ordered_index.proofs.BothNumbers.{both-numbers}
use Rattle.ordered_index.proofs.aged.numbers_of_both.Goals as goal

pub returns : goal.returns
returns g c =
    both-numbers c.args.leases.now c.args.past.now c.requires c.loop-number.numbers.items c.loop-number.number-iterator c.sort_unstable.new.self.items
    c.in-None.ensures.steps.0 c.loop-number.invariant c.sort_unstable.ensures.permutation c.sort_unstable.ensures.sorted
