-- Runs of places in a row, and the values of their places (our own).
use Rattle.std.specs.Prelude.{◌≡◌, ℕ, ◌+◌, ◌-◌, ◌<◌, ◌≤◌, ◌&&◌, ◌==◌, nat_lt, Bool, true, List, Option, Some, None, IfSome, find, if◌then◌else◌}
use Rattle.port_runs.specs.Ports.{is_in_run}
use Rattle.port_spans.specs.declared.runs.Run.{Run}

module _ {V : Type 0} where
  -- whether a place is one of the run's
  abbrev pub has_place : ℕ → Run V → Bool
  has_place at r = is_in_run r.first r.count at

  -- the run that has a place
  abbrev pub run_at : List (Run V) → ℕ → Option (Run V)
  run_at runs at = find (has_place at) runs

  -- it has the place, and of each of its places it is the run
  pub record IsRunAt (runs : List (Run V)) (at : ℕ) (r : Run V) : Type 0 where
    pub has : has_place at r ≡ true
    pub whole : (other : ℕ) → has_place other r ≡ true → run_at runs other ≡ Some r

  -- no place is one of two runs
  abbrev pub AreRuns : List (Run V) → Type 0
  AreRuns runs = (at : ℕ) → IfSome (run_at runs at) (IsRunAt runs at)

  -- it begins at the place or behind it and before the end, and no other that begins from the place
  -- on begins before it
  pub record IsFirstFrom (runs : List (Run V)) (place end : ℕ) (r : Run V) : Type 0 where
    pub there : IsRunAt runs r.first r
    pub from : place ≤ r.first
    pub before : r.first < end
    pub least : (at : ℕ) → IfSome (run_at runs at) (λ s. place ≤ s.first → r.first ≤ s.first)

  -- the first run that begins from the place on and before the end; None where none does
  abbrev pub IsNextRun : List (Run V) → ℕ → ℕ → Option (Run V) → Type 0
  IsNextRun runs place end None =
      (at : ℕ) → IfSome (run_at runs at) (λ s. place ≤ s.first → end ≤ s.first)
  IsNextRun runs place end (Some r) = IsFirstFrom runs place end r

  -- the part of a run before a place, or that from it on: the one that has the place `at`
  abbrev pub part_at : ℕ → ℕ → Run V → Run V
  part_at place at r =
      if nat_lt r.first place && has_place place r
      then (if nat_lt at place
      then record { first = r.first; count = place - r.first; value = r.value }
      else record { first = place; count = r.first + r.count - place; value = r.value })
      else r

  -- with another value, where it begins at the place
  abbrev pub with_value : ℕ → V → Run V → Run V
  with_value first value r = if r.first == first then record r { value = value } else r

  -- the run, unless it begins at the place
  abbrev pub but_from : ℕ → Option (Run V) → Option (Run V)
  but_from first None = None
  but_from first (Some r) = if r.first == first then None else Some r
