-- How many runs fall due (our own).
use Rattle.std.specs.Prelude.{◌≡◌, ℕ, ◌+◌, ◌<◌, ◌≤◌, Bool, false, zero, suc, Option, Some, None, nat_le, if◌then◌else◌}
use Rattle.std.specs.Ordering.{nat_cmp}
use Rattle.std.specs.FinMap.{FinMap, get}

-- whether a moment came
abbrev pub is_due : ℕ → Option ℕ → Bool
is_due m None = false
is_due m (Some expiry) = nat_le expiry m

-- what waits under an id falls due by m
pub record IsDueAt (m : ℕ) (waits : FinMap nat_cmp ℕ) (id : ℕ) : Type 0 where
  pub expiry : ℕ
  pub expires : get waits id ≡ Some expiry
  pub due : expiry ≤ m

-- nothing that waits falls due by m
abbrev pub NoneDue : ℕ → FinMap nat_cmp ℕ → Type 0
NoneDue m waits = (id expiry : ℕ) → get waits id ≡ Some expiry → m < expiry

-- how many of the ids below n fall due by m
unfoldable pub due_below : ℕ → FinMap nat_cmp ℕ → ℕ → ℕ
due_below m waits zero = 0
due_below m waits (suc n) = due_below m waits n + (if is_due m (get waits n) then 1 else 0)
