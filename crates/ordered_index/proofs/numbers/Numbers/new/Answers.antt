use Rattle.ordered_index.proofs.NumberLaws.{order-none, ordered-none}
use Rattle.ordered_index.proofs.numbers.Numbers.new.Goals as goal

pub invariant_of-result : goal.invariant_of-result
invariant_of-result c = ordered-none c.in_ok-none.field-0 c.in_ok-none.ensures

pub returns : goal.returns
returns c = order-none c.in_ok-none.field-0 c.in_ok-none.ensures
