use Rattle.ordered_index.proofs.NumberLaws.{order-none, ordered-none}
use Rattle.ordered_index.proofs.numbers.Numbers.clear.Goals as goal

pub invariant_of-self : goal.invariant_of-self
invariant_of-self c = ordered-none c.clear.new.self c.clear.ensures

pub returns : goal.returns
returns c = order-none c.clear.new.self c.clear.ensures
