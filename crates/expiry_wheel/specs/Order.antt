-- The order in which pairs fall due (our own; for proofs alone).
use Rattle.std.specs.Prelude.{Bool, Option, None, Some, ◌||◌, ◌&&◌, ◌==◌, nat_lt, if◌then◌else◌, ◌≡◌, ◌≤◌, ⊤}
use Rattle.expiry_wheel.specs.declared.pair.Pair.{Pair}

-- by expiry, and then by id
abbrev pub is_sooner : Pair → Pair → Bool
is_sooner p q = nat_lt p.expiry q.expiry || (p.expiry == q.expiry && nat_lt p.id q.id)

-- the first, unless the second is before it
abbrev pub sooner : Option Pair → Option Pair → Option Pair
sooner None b = b
sooner (Some p) None = Some p
sooner (Some p) (Some q) = (if is_sooner q p then Some q else Some p)

-- the expiry of the first is less, or the same and its id no greater
abbrev pub IsNoLater : Option Pair → Option Pair → Type 0
IsNoLater a None = ⊤
IsNoLater None (Some q) = ⊥
IsNoLater (Some p) (Some q) = (p.expiry ≤ q.expiry) × (p.expiry ≡ q.expiry → p.id ≤ q.id)
