-- Lists of moments by their ids (our own; for proofs alone).
use Rattle.std.specs.Prelude.{ℕ, List, [], ◌∷◌, Option, None, Some, ◌==◌, if◌then◌else◌, ◌+◌, ◌-◌, ◌<◌, ◌≤◌, length, slice_index_or}
use Rattle.std.specs.Ordering.{nat_cmp}
use Rattle.std.specs.FinMap.{FinMap, insert, remove, empty}
use Rattle.expiry_wheel.specs.declared.TheConstants.{NEVER}

-- the expiry that a moment stands for
abbrev pub told : ℕ → Option ℕ
told moment = (if moment == NEVER then None else Some moment)

-- with an expiry for the id, if one is told
abbrev pub with_expiry : FinMap nat_cmp ℕ → ℕ → Option ℕ → FinMap nat_cmp ℕ
with_expiry expiries id None = expiries
with_expiry expiries id (Some expiry) = insert expiries id expiry

-- the expiries of the ids from this one on, by their moments
abbrev pub expiries_from : ℕ → List ℕ → FinMap nat_cmp ℕ
expiries_from id [] = empty
expiries_from id (moment ∷ moments) = with_expiry (expiries_from (id + 1) moments) id (told moment)

-- the expiries of all ids
abbrev pub expiries_by : List ℕ → FinMap nat_cmp ℕ
expiries_by moments = expiries_from 0 moments

-- the id gets the expiry that the moment stands for, or loses its own
abbrev pub written : FinMap nat_cmp ℕ → ℕ → ℕ → FinMap nat_cmp ℕ
written expiries id moment =
    (if moment == NEVER then remove expiries id else insert expiries id moment)

-- what stands at a place; past the end, NEVER
abbrev pub kept_at : List ℕ → ℕ → ℕ
kept_at cells i = slice_index_or cells i NEVER

-- the last moment up to m at which something may expire
abbrev pub latest : ℕ → ℕ
latest m = (if m == NEVER then NEVER - 1 else m)

-- the first place from one on at which a function of places is at most m
pub record IsFirstOf (f : ℕ → ℕ) (from m i : ℕ) : Type 0 where
  pub from_on : from ≤ i
  pub due : f i ≤ m
  pub first : (j : ℕ) → from ≤ j → j < i → m < f j

-- the first place from one on at which at most m stands
abbrev pub IsFirstIn : List ℕ → ℕ → ℕ → ℕ → Type 0
IsFirstIn cells from m i = IsFirstOf (kept_at cells) from m i

-- the first place at which the least of all stands, which is at most m
pub record IsNextIn (cells : List ℕ) (m i : ℕ) : Type 0 where
  pub moment : ℕ
  pub due : moment ≤ m
  pub least : (j : ℕ) → j < length cells → moment ≤ kept_at cells j
  pub first : IsFirstIn cells 0 moment i
