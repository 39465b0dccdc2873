-- Counts of faults (our own). Each object of the outside has a count that never falls.
use Rattle.std.specs.Prelude.{ℕ, ◌-◌, ◌^◌, ◌<◌, ◌≤◌, ◌⊎◌, Result, IsErr}

-- The count has risen. A count of 64 bits that stands at its end can rise no more, and says nothing
-- then.
abbrev pub HasRisen : ℕ → ℕ → Type 0
HasRisen before now = (before < now) ⊎ (2 ^ 64 - 1 ≤ now)

-- a call answers with an error only where the count rose in it
pub record HasCause {T E : Type 0} (before now : ℕ) (result : Result T E) : Type 0 where
  pub later : before ≤ now
  pub failed : IsErr result → HasRisen before now
