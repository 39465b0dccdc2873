use Rattle.std.proofs.Common.{◌≡◌, ◌++◌}
use Rattle.std.specs.BTreeMap.{keys}
use Rattle.ordered_index.proofs.aged.numbers_of_both.Given as goal

-- the numbers that are out and those that are left are all
abbrev pub invariant-loop-number : goal.invariant-loop-number
invariant-loop-number g l = l.numbers.items ++ l.number-iterator ≡ keys l.leases ++ keys l.past
