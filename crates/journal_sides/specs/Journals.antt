-- What the two sides of a journal stand for, over any two strings of octets (our own).
use Rattle.std.specs.Prelude.{◌≡◌, ◌⊎◌, ℕ, ◌<◌, List, [], ◌∷◌}
use Rattle.pcp_base.specs.declared.records.Record.{Record}
use Rattle.pcp_base.specs.declared.records.Change.TheVariants.{Start}
use Rattle.pcp_base.specs.States.{State}
use Rattle.pcp_base.specs.Apply.{apply_all, state_of}
use Rattle.journal_sides.specs.Formats.{state_by}
use Rattle.journal_sides.specs.declared.formats.Format.{Format}
use Rattle.journal_sides.specs.Frames.{records_of}
use Rattle.journal_sides.specs.Sides.{IsOpenSide, IsClosedSide, IsBadSide}

abbrev pub IsBlank : List ℕ → List ℕ → Type 0
IsBlank a b = IsClosedSide a × IsClosedSide b

abbrev pub IsDamaged : List ℕ → List ℕ → Type 0
IsDamaged a b = IsBadSide 0 a ⊎ IsBadSide 1 b

-- A side that gives way to one of this generation: it is closed, or open in either format with a
-- smaller one.
abbrev pub GivesWay : ℕ → List ℕ → ℕ → Type 0
GivesWay parity octets generation =
    IsClosedSide octets
    ⊎ ((format : Format) × (g : ℕ) × (batches : List (List Record))
    × IsOpenSide format parity octets g batches × (g < generation))

-- of two sides this one counts, and has this format
pub record Counts (parity : ℕ) (here : List ℕ) (other_parity : ℕ) (there : List ℕ)
    (format : Format) (records : List Record) : Type 0 where
  pub generation : ℕ
  pub batches : List (List Record)
  pub is : IsOpenSide format parity here generation batches
  pub holds : records ≡ records_of batches
  pub other : GivesWay other_parity there generation

-- No open side is bad, some side is open, and these are the format and the records of the one that
-- counts.
abbrev pub Recovers : List ℕ → List ℕ → Format → List Record → Type 0
Recovers a b format records = Counts 0 a 1 b format records ⊎ Counts 1 b 0 a format records

-- the state that is recovered, by the rules of the format that counts
abbrev pub StandsFor : State → List ℕ → List ℕ → Type 0
StandsFor s a b =
    (format : Format) × (records : List Record) × Recovers a b format records
    × (state_by format records ≡ s)

-- the state of a start at m
abbrev pub fresh_state : ℕ → State
fresh_state m = state_of (record { moment = m; change = Start } ∷ [])

-- with all records of a batch, or without them
abbrev pub StandsForWithOrWithout : State → List Record → List ℕ → List ℕ → Type 0
StandsForWithOrWithout s batch a b = StandsFor s a b ⊎ StandsFor (apply_all s batch) a b

-- in the middle of a blank start at m
abbrev pub IsStarting : ℕ → List ℕ → List ℕ → Type 0
IsStarting m a b = IsBlank a b ⊎ StandsFor (fresh_state m) a b

-- in the middle of a damaged start at m
abbrev pub IsStartingAnew : ℕ → List ℕ → List ℕ → Type 0
IsStartingAnew m a b = IsDamaged a b ⊎ IsStarting m a b
