use Rattle.std.proofs.Common.{◌≡◌, ◌++◌, map}
use Rattle.slab.specs.Slab.{entries}
use Rattle.ordered_index.specs.Slots.{number_of}
use Rattle.ordered_index.proofs.slots.gather.Given as goal

-- the numbers that are out and those that are left are all
abbrev pub invariant-loop-slot : goal.invariant-loop-slot
invariant-loop-slot g l = l.numbers.items ++ map number_of l._slot-iterator ≡ map number_of (entries l.slots)
