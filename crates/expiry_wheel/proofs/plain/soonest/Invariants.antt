use Rattle.std.proofs.Common.{ℕ, ◌<◌, slice_get, Contains, IfSome}
use Rattle.expiry_wheel.specs.Order.{IsNoLater}
use Rattle.expiry_wheel.proofs.plain.soonest.Given as goal

-- it is the soonest of those so far
abbrev pub invariant-loop-pair : goal.invariant-loop-pair
invariant-loop-pair l = record {
  present : IfSome l.best (Contains l.pairs);
  first : (k : ℕ) → k < l.pair-index → IsNoLater l.best (slice_get l.pairs k);
}
