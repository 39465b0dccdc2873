use Rattle.std.proofs.Common.{◌≡◌, ◌+◌, ◌*◌}
use Rattle.expiry_wheel.specs.Moments.{kept_at}
use Rattle.expiry_wheel.specs.Blocks.{least_at}
use Rattle.expiry_wheel.proofs.blocks.least_of.Given as goal

-- it is the least of those so far
abbrev pub invariant-loop-i : goal.invariant-loop-i
invariant-loop-i g l = record {
  least : l.least ≡ least_at (kept_at l.moments) (8 * l.block) l.i;
  cost : l.steps ≡ l.fn.steps + l.i;
}
