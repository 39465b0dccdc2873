use Rattle.std.proofs.Common.{◌≡◌, ◌≢◌, ℕ, ◌<◌, Some, slice_get}
use Rattle.expiry_wheel.specs.declared.pair.Pair.{Pair}
use Rattle.expiry_wheel.proofs.plain.place_of.Given as goal

-- none of those so far has the id
abbrev pub invariant-loop-i : goal.invariant-loop-i
invariant-loop-i l = (k : ℕ) (p : Pair) → k < l.i → slice_get l.pairs k ≡ Some p → p.id ≢ l.id
