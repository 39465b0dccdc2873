-- What is told of a journal that is read once (our own).
use Rattle.std.specs.Prelude.{◌≡◌, ℕ, ◌+◌, ⊤, true, List, ◌∷◌, Option, Some, None, length, unwrap_or}
use Rattle.pcp_base.specs.declared.configs.External.{External}
use Rattle.pcp_base.specs.Reached.{IsReached}
use Rattle.pcp_base.specs.States.{State}
use Rattle.pcp_base.specs.Tables.{Table, live}
use Rattle.journal_sides.specs.declared.judging.Verdict.{Verdict}
use Rattle.journal_sides.specs.declared.judging.Verdict.TheVariants.{Counting, Neither, Broken}
use Rattle.journal_sides.specs.declared.sides.Side.{Side}
use Rattle.journal_sides.specs.declared.walks.Standing.{Standing}
use Rattle.journal_sides.specs.Journals.{IsBlank, IsDamaged}
use Rattle.journal_sides.specs.Settled.{StandsBy}
use Rattle.journal_watch.specs.declared.happenings.Happening.{Happening}
use Rattle.journal_watch.specs.declared.happenings.Happening.TheVariants.{Begins, FoundMap, FoundPeer}
use Rattle.journal_watch.specs.Happenings.{each}
use Rattle.journal_watch.specs.Readings.{moment_of}
use Rattle.watch_lines.specs.declared.doubts.Doubt.{Doubt}
use Rattle.watch_lines.specs.declared.doubts.Doubt.TheVariants.{Blank, Damaged, Unsettled}
use Rattle.watch_lines.specs.declared.settings.Setting.{Setting}
use Rattle.watch_lines.specs.Lines.{doubt_line, lines_text}
use Rattle.watch_readings.specs.declared.readings.Told.{Told}

-- the generation of the side that counts and the state of its records, or why there are none
pub data OnceReading : Type 0 where
  Counts : ℕ → State → OnceReading
  Doubtful : Doubt → OnceReading

-- these sides are read so
abbrev pub IsOnceReadingOf : List ℕ → List ℕ → OnceReading → Type 0
IsOnceReadingOf a b (Counts generation s) =
    (side : Side) × (standing : Standing) × StandsBy side standing s a b
    × (generation ≡ standing.generation)
IsOnceReadingOf a b (Doubtful Blank) = IsBlank a b
IsOnceReadingOf a b (Doubtful Damaged) = IsDamaged a b
IsOnceReadingOf a b (Doubtful Unsettled) = ⊥

-- what was judged as a reading, with the state that the records of the side that counts make
abbrev pub once_reading_of : Verdict → State → OnceReading
once_reading_of (Counting side standing) s = Counts standing.generation s
once_reading_of Neither s = Doubtful Blank
once_reading_of (Broken judged_a judged_b) s = Doubtful Damaged

-- records made the state, where a side counts
abbrev pub IsReachedBy : Verdict → State → Type 0
IsReachedBy (Counting side standing) s = IsReached s
IsReachedBy Neither s = ⊤
IsReachedBy (Broken judged_a judged_b) s = ⊤

-- the leases that are live at the greater of the reading's time and the last moment
abbrev pub shown_at : ℕ → State → Table
shown_at time s = live s.table (moment_of time s)

-- a life is followed, and what is live is found
abbrev pub once_told : ℕ → ℕ → State → List Happening
once_told time generation s = Begins generation true ∷ each FoundMap FoundPeer (shown_at time s)

-- the address is the configured one where the journal names none
abbrev pub once_setting : External → ℕ → ℕ → State → Setting
once_setting e shard time s = record {
  address = unwrap_or s.address e.address;
  shard = shard;
  moment = moment_of time s;
  base = s.base;
  last = s.last;
}

-- where no state is known, only the address and the moment are told
abbrev pub doubt_setting : External → ℕ → ℕ → Setting
doubt_setting e shard time = record {
  address = e.address;
  shard = shard;
  moment = time;
  base = time;
  last = time;
}

-- what is told of a reading at this time of the journal of this external address
abbrev pub IsToldOf : External → ℕ → ℕ → OnceReading → Told → Type 0
IsToldOf e shard time (Counts generation s) told =
    (told.doubt ≡ None)
    × (told.leases ≡ length (shown_at time s).maps + length (shown_at time s).peers)
    × (told.lines ≡ lines_text (once_setting e shard time s) (once_told time generation s))
IsToldOf e shard time (Doubtful doubt) told =
    (told.doubt ≡ Some doubt)
    × (told.leases ≡ 0)
    × (told.lines ≡ doubt_line (doubt_setting e shard time) doubt)

-- the same of what a pair holds, where its disks tell it
pub record IsToldAs (tells : Type 0) (a b : List ℕ) (e : External) (shard time : ℕ) (told : Told)
    : Type 0 where
  pub reading : OnceReading
  pub of_pair : tells → IsOnceReadingOf a b reading
  pub tells_it : IsToldOf e shard time reading told

-- what both sides held at a moment is read so; where there is no such moment, the reading is unsettled
abbrev pub IsReadOf : Option (List ℕ × List ℕ) → OnceReading → Type 0
IsReadOf None reading = reading ≡ Doubtful Unsettled
IsReadOf (Some sides) reading = IsOnceReadingOf sides.0 sides.1 reading

-- what is told of it
pub record IsToldBy (sides : Option (List ℕ × List ℕ)) (e : External) (shard time : ℕ) (told : Told)
    : Type 0 where
  pub reading : OnceReading
  pub of_sides : IsReadOf sides reading
  pub tells_it : IsToldOf e shard time reading told
