-- What follows from knowing the pair that falls due first
use Rattle.std.proofs.Common.{◌≡◌, ℕ, ◌<◌, ◌≤◌, Option, None, Some, IfSome, refl, arith}
use Rattle.std.specs.Ordering.{nat_cmp}
use Rattle.std.specs.FinMap.{FinMap, get}
use Rattle.expiry_wheel.specs.declared.pair.Pair.{Pair}
use Rattle.expiry_wheel.specs.Order.{IsNoLater}
use Rattle.expiry_wheel.specs.Due.{IsNextDue}

-- the pair is one of the map's, and none is before it; None is for the empty map
pub record IsSoonest (expiries : FinMap nat_cmp ℕ) (best : Option Pair) : Type 0 where
  pub present : IfSome best (λ (p : Pair). get expiries p.id ≡ Some p.expiry)
  pub first : (id e : ℕ) → get expiries id ≡ Some e → IsNoLater best (Some (record { expiry = e; id = id }))

pub next_due : (expiries : FinMap nat_cmp ℕ) (p : Pair) (m : ℕ) → IsSoonest expiries (Some p) → p.expiry ≤ m → IsNextDue expiries m p.id
next_due expiries p m soonest due = record {
  expiry = p.expiry;
  expires = soonest.present;
  due = due;
  least = λ other e found. (soonest.first other e found).0;
  first = λ other found. (soonest.first other p.expiry found).1 refl;
}

pub none_due : (expiries : FinMap nat_cmp ℕ) (p : Pair) (m : ℕ) → IsSoonest expiries (Some p) → m < p.expiry → (id e : ℕ) → get expiries id ≡ Some e → m < e
none_due expiries p m soonest later id e found = let no_earlier : p.expiry ≤ e = (soonest.first id e found).0 in omega arith

pub nothing_there : (expiries : FinMap nat_cmp ℕ) → IsSoonest expiries None → (id e : ℕ) → get expiries id ≡ Some e → ⊥
nothing_there expiries soonest id e found = soonest.first id e found
