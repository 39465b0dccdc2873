use Rattle.std.proofs.Common.{◌≡◌, ℕ, ◌+◌, ◌-◌, ◌<◌, ◌≤◌}
use Rattle.expiry_wheel.specs.Moments.{kept_at}
use Rattle.expiry_wheel.proofs.blocks.first_in.Given as goal

-- none of those so far is due
abbrev pub invariant-loop-id : goal.invariant-loop-id
invariant-loop-id g l = record {
  later : (j : ℕ) → l.from ≤ j → j < l.id → l.m < kept_at l.moments j;
  cost : l.steps ≡ l.fn.steps + (l.id - l.from);
}
