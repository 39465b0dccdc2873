-- Which id falls due next, and which is the first that is due (our own).
use Rattle.std.specs.Prelude.{◌≡◌, ℕ, ◌≤◌, Some}
use Rattle.std.specs.Ordering.{nat_cmp}
use Rattle.std.specs.FinMap.{FinMap, get}

-- at the moment m: the id's expiry is at most m, no other id has a lesser one, and no lesser id has
-- the same one
pub record IsNextDue (expiries : FinMap nat_cmp ℕ) (m id : ℕ) : Type 0 where
  pub expiry : ℕ
  pub expires : get expiries id ≡ Some expiry
  pub due : expiry ≤ m
  pub least : (other e : ℕ) → get expiries other ≡ Some e → expiry ≤ e
  pub first : (other : ℕ) → get expiries other ≡ Some expiry → id ≤ other

-- at the moment m: the least id from `from` on whose expiry is at most m
pub record IsFirstDue (expiries : FinMap nat_cmp ℕ) (from m id : ℕ) : Type 0 where
  pub expiry : ℕ
  pub expires : get expiries id ≡ Some expiry
  pub due : expiry ≤ m
  pub from_on : from ≤ id
  pub first : (other e : ℕ) → get expiries other ≡ Some e → e ≤ m → from ≤ other → id ≤ other
