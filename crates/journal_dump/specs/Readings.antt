-- What the sides of a journal are read as (our own).
use Rattle.std.specs.Prelude.{◌≡◌, ℕ, List}
use Rattle.journal_sides.specs.Journals.{IsBlank, IsDamaged, StandsFor}
use Rattle.lease_journal.specs.declared.errors.Found.{Found}
use Rattle.pcp_base.specs.States.{State}
use Rattle.journal_dump.specs.declared.looks.Looked.{Looked}

-- the state that the records of the journal make, or why there is none
pub data JournalReading : Type 0 where
  Recovered : State → JournalReading
  Blank : JournalReading
  Damaged : JournalReading

-- these sides are read so
abbrev pub IsReadingOf : List ℕ → List ℕ → JournalReading → Type 0
IsReadingOf a b (Recovered s) = StandsFor s a b
IsReadingOf a b Blank = IsBlank a b
IsReadingOf a b Damaged = IsDamaged a b

-- what was found, and the state that a replay then stands for
abbrev pub reading_of : Found → State → JournalReading
reading_of Found.Recovered s = Recovered s
reading_of Found.Blank s = Blank
reading_of Found.Damaged s = Damaged

-- these sides are found so, and their records end at this moment, which is 0 where they have none
abbrev pub IsLookedUntil : List ℕ → List ℕ → Found → ℕ → Type 0
IsLookedUntil a b Found.Recovered last = (s : State) × StandsFor s a b × (last ≡ s.last)
IsLookedUntil a b Found.Blank last = IsBlank a b × (last ≡ 0)
IsLookedUntil a b Found.Damaged last = IsDamaged a b × (last ≡ 0)

-- the same of what a look tells
abbrev pub IsLookedAs : List ℕ → List ℕ → Looked → Type 0
IsLookedAs a b looked = IsLookedUntil a b looked.found looked.last
