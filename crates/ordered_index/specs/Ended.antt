-- Which leases have ended, by their expiries (our own).
use Rattle.std.specs.Prelude.{◌≡◌, ℕ, nat_lt, not, Bool, true, false, Option, Some, IfSome, IfNone}
use Rattle.std.specs.Ordering.{nat_cmp}
use Rattle.std.specs.BTreeMap.{BTreeMap, get}

-- whether the expiry of the lease is at most m
abbrev pub has_ended : {L : Type 0} → (L → ℕ) → ℕ → L → Bool
has_ended expiry m l = not (nat_lt m (expiry l))

-- the number of a lease that has ended by m, None exactly where none has
pub record IsOneEnded {L : Type 0} (expiry : L → ℕ) (m : ℕ) (leases : BTreeMap ℕ L)
    (result : Option ℕ) : Type 0 where
  pub ended : IfSome result (λ n.
      (l : L) × (get nat_cmp leases n ≡ Some l) × (has_ended expiry m l ≡ true))
  pub none : IfNone result ((n : ℕ) (l : L) → get nat_cmp leases n ≡ Some l
      → has_ended expiry m l ≡ false)
