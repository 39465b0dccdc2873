-- The least id of a list of pairs that is due (our own; for proofs alone).
use Rattle.std.specs.Prelude.{ℕ, Bool, true, List, Option, None, Some, ◌≡◌, ◌&&◌, nat_le, nat_lt, if◌then◌else◌, ◌<◌, ◌≤◌, slice_get}
use Rattle.expiry_wheel.specs.declared.pair.Pair.{Pair}

-- an id from `from` on, and an expiry up to m
abbrev pub is_due_from : ℕ → ℕ → Pair → Bool
is_due_from from m p = nat_le from p.id && nat_le p.expiry m

abbrev pub lesser : Option ℕ → ℕ → ℕ
lesser None b = b
lesser (Some a) b = (if nat_lt a b then a else b)

-- the lesser of an id and of that of a pair, if the pair is due
abbrev pub with_due : ℕ → ℕ → Option ℕ → Pair → Option ℕ
with_due from m best p = (if is_due_from from m p then Some (lesser best p.id) else best)

-- some pair of the list is due, and has the id
pub record HasDue (pairs : List Pair) (from m id : ℕ) : Type 0 where
  pub place : ℕ
  pub pair : Pair
  pub stands : slice_get pairs place ≡ Some pair
  pub due : is_due_from from m pair ≡ true
  pub is : pair.id ≡ id

-- at most that id
abbrev pub IsUpTo : Option ℕ → ℕ → Type 0
IsUpTo None id = ⊥
IsUpTo (Some a) id = a ≤ id

-- no id of the first n pairs that is due is less
abbrev pub AllFrom : List Pair → ℕ → ℕ → Option ℕ → ℕ → Type 0
AllFrom pairs from m best n =
    (k : ℕ) (p : Pair) → k < n → slice_get pairs k ≡ Some p → is_due_from from m p ≡ true →
    IsUpTo best p.id
