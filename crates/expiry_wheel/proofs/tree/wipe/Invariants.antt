use Rattle.std.proofs.Common.{◌≡◌, ℕ, ◌<◌}
use Rattle.expiry_wheel.specs.declared.TheConstants.{NEVER}
use Rattle.expiry_wheel.specs.Moments.{kept_at}
use Rattle.expiry_wheel.proofs.tree.wipe.Given as goal

-- those so far are NEVER
abbrev pub invariant-loop-i : goal.invariant-loop-i
invariant-loop-i l = (k : ℕ) → k < l.i → kept_at l.cells k ≡ NEVER
