-- The laws of journals, over any two strings of octets (our own).
use Rattle.std.specs.Prelude.{◌≡◌, ℕ, ◌+◌, ◌^◌, ◌<◌, true, List, get_or}
use Rattle.pcp_base.specs.declared.records.Record.{Record}
use Rattle.pcp_base.specs.Reached.{IsReached, IsReachedFirst}
use Rattle.pcp_base.specs.Snapshots.{snapshot}
use Rattle.pcp_base.specs.States.{State, empty_state}
use Rattle.pcp_base.specs.Apply.{state_of}
use Rattle.pcp_base.specs.Fits.{AllFit}
use Rattle.journal_sides.specs.declared.formats.Format.{Format}
use Rattle.journal_sides.specs.declared.formats.Format.TheVariants.{First}
use Rattle.journal_sides.specs.Formats.{format_octet, state_by}
use Rattle.journal_sides.specs.Frames.{records_of}
use Rattle.journal_sides.specs.Journals.{IsBlank, IsDamaged, Recovers, StandsFor}
use Rattle.journal_sides.specs.Sides.{IsOpenSide}

-- ---- one reading

-- two sides stand for one list of records in one format
abbrev pub OneReading : Type 0
OneReading = (a b : List ℕ) (f g : Format) (r s : List Record) →
    Recovers a b f r → Recovers a b g s → (f ≡ g) × (r ≡ s)

-- and for one state
abbrev pub OneState : Type 0
OneState = (a b : List ℕ) (s t : State) → StandsFor s a b → StandsFor t a b → s ≡ t

-- then they are neither blank nor damaged
abbrev pub RecoveredAlone : Type 0
RecoveredAlone = (a b : List ℕ) (f : Format) (r : List Record) →
    Recovers a b f r → ¬ (IsBlank a b) × ¬ (IsDamaged a b)

abbrev pub BlankIsWhole : Type 0
BlankIsWhole = (a b : List ℕ) → IsBlank a b → ¬ (IsDamaged a b)

-- ---- formats

-- octet 5 of a side tells its format
abbrev pub OctetsTellFormats : Type 0
OctetsTellFormats = (f : Format) (parity : ℕ) (octets : List ℕ) (g : ℕ)
    (batches : List (List Record)) → IsOpenSide f parity octets g batches →
    get_or octets 5 0 ≡ format_octet f

-- a side of the first format has a next generation
abbrev pub FirstHasNext : Type 0
FirstHasNext = (parity : ℕ) (octets : List ℕ) (g : ℕ) (batches : List (List Record)) →
    IsOpenSide First parity octets g batches → g + 1 < 2 ^ 64

-- and stands for a state with no ends and no address
abbrev pub FirstStandsBare : Type 0
FirstStandsBare = (parity : ℕ) (octets : List ℕ) (g : ℕ) (batches : List (List Record)) →
    IsOpenSide First parity octets g batches → IsReachedFirst (state_by First (records_of batches))

-- ---- snapshots

-- what two sides stand for is the state of records that fit, of which the first is a Start
abbrev pub StandingIsReached : Type 0
StandingIsReached = (s : State) (a b : List ℕ) → StandsFor s a b → IsReached s × (s.started ≡ true)

-- so it has a snapshot, whose records fit and stand for the same
abbrev pub StandingHasSnapshot : Type 0
StandingHasSnapshot = (s : State) (a b : List ℕ) → StandsFor s a b →
    AllFit empty_state (snapshot s) × (state_of (snapshot s) ≡ s)
