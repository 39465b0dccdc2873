-- What a journal stands for is started and reached, so that it has a snapshot.
use Rattle.std.proofs.Common.{◌≡◌, inl, inr, ℕ, ◌<◌, true, List, [], ◌∷◌, length, sym, ◌∙◌, ap, subst, arith, length-append}
use Rattle.std.specs.List.{AllByRecursion}
use Rattle.pcp_base.specs.Records.{IsWellFormedRecord}
use Rattle.pcp_base.specs.declared.records.Record.{Record}
use Rattle.pcp_base.specs.Snapshots.{snapshot}
use Rattle.pcp_base.specs.States.{State, empty_state}
use Rattle.pcp_base.specs.Fits.{AllFit}
use Rattle.pcp_base.specs.Apply.{apply, state_of}
use Rattle.pcp_base.specs.Laws.{RecordsReach, FirstRecordsReach, SnapshotsStand}
use Rattle.pcp_base.specs.Reached.{IsReached, IsReachedFirst}
use Rattle.journal_sides.specs.declared.formats.Format.{Format}
use Rattle.journal_sides.specs.declared.formats.Format.TheVariants.{First, Second}
use Rattle.journal_sides.specs.Formats.{state_by}
use Rattle.journal_sides.specs.Frames.{records_of}
use Rattle.journal_sides.specs.Sides.{AreBatches, IsOpenSide}
use Rattle.journal_sides.specs.Journals.{Counts, StandsFor}
use Rattle.journal_sides.proofs.BegunLaws.{all_begun}

-- a side of the first format stands for a state with no ends and no address
pub first_reached : (first : FirstRecordsReach) (parity : ℕ) (octets : List ℕ) (generation : ℕ) (batches : List (List Record)) → IsOpenSide First parity octets generation batches → IsReachedFirst (state_by First (records_of batches))
first_reached first parity octets generation batches side = first (records_of batches) side.contents.fit

-- what any side stands for is reached
pub side_reached : (made : RecordsReach) (first : FirstRecordsReach) (format : Format) (parity : ℕ) (octets : List ℕ) (generation : ℕ) (batches : List (List Record)) → IsOpenSide format parity octets generation batches → IsReached (state_by format (records_of batches))
side_reached made first First parity octets generation batches side = (first_reached first parity octets generation batches side).reached
side_reached made first Second parity octets generation batches side = made (records_of batches) side.contents.fit

pub counts_reached : (made : RecordsReach) (first : FirstRecordsReach) (parity other : ℕ) (here there : List ℕ) (format : Format) (records : List Record) → Counts parity here other there format records → IsReached (state_by format records)
counts_reached made first parity other here there format records c =
    subst (λ (l : List Record). IsReached (state_by format l)) (sym c.holds) (side_reached made first format parity here c.generation c.batches c.is)

-- and so is what a journal stands for
pub stands_reached : (made : RecordsReach) (first : FirstRecordsReach) (s : State) (a b : List ℕ) → StandsFor s a b → IsReached s
stands_reached made first s a b (format, records, inl c, is) = subst IsReached is (counts_reached made first 0 1 a b format records c)
stands_reached made first s a b (format, records, inr c, is) = subst IsReached is (counts_reached made first 1 0 b a format records c)

some_record : (format : Format) (parity generation : ℕ) (batches : List (List Record)) → AreBatches format parity generation batches → 0 < length (records_of batches)
some_record format parity generation [] are = absurd (omega (arith, are.some))
some_record format parity generation (batch ∷ batches) are = omega (arith, are.each.0.some, length-append batch (records_of batches))

pub counts_started : (parity other : ℕ) (here there : List ℕ) (format : Format) (records : List Record) → Counts parity here other there format records → (state_by format records).started ≡ true
counts_started parity other here there format records c =
    subst (λ (l : List Record). (state_by format l).started ≡ true) (sym c.holds)
    (all_begun format empty_state (records_of c.batches) c.is.contents.fit (some_record format parity c.generation c.batches c.is.contents))

-- what a journal stands for is reached, and a Start came
pub stands_started : (s : State) (a b : List ℕ) → StandsFor s a b → s.started ≡ true
stands_started s a b (format, records, inl c, is) = ap (λ (x : State). x.started) (sym is) ∙ counts_started 0 1 a b format records c
stands_started s a b (format, records, inr c, is) = ap (λ (x : State). x.started) (sym is) ∙ counts_started 1 0 b a format records c

pub stands_snapshot : (made : RecordsReach) (first : FirstRecordsReach) (snapshots : SnapshotsStand) (s : State) (a b : List ℕ) → StandsFor s a b → AllFit empty_state (snapshot s) × (state_of (snapshot s) ≡ s)
stands_snapshot made first snapshots s a b stands = snapshots s (stands_reached made first s a b stands) (stands_started s a b stands)

pub all_formed : (s : State) (rs : List Record) → AllFit s rs → AllByRecursion IsWellFormedRecord rs
all_formed s [] fit = tt
all_formed s (r ∷ rs) fit = (fit.0.formed, all_formed (apply s r) rs fit.1)
