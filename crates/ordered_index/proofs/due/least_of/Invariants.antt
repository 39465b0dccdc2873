use Rattle.std.proofs.Common.{◌≡◌, ◌*◌}
use Rattle.expiry_wheel.specs.Blocks.{least_at}
use Rattle.ordered_index.specs.Slots.{moment_at}
use Rattle.ordered_index.proofs.due.least_of.Given as goal

-- it is the least of those so far
abbrev pub invariant-loop-i : goal.invariant-loop-i
invariant-loop-i g l = l.least ≡ least_at (moment_at g.L.Expires.expiry l.slots) (8 * l.block) l.i
