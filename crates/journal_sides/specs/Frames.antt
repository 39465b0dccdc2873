-- Frames of a journal (our own). A frame is a gate, a length in 4 octets, and that many octets of
-- records.
use Rattle.std.specs.Prelude.{ℕ, ◌+◌, ◌*◌, ◌/◌, ◌<◌, ◌≤◌, List, [], ◌∷◌, ◌++◌, length}
use Rattle.std.specs.List.{flat_map, AllByRecursion}
use Rattle.std.specs.Int.{to_be_bytes, w32}
use Rattle.pcp_base.specs.declared.records.Record.{Record}
use Rattle.lease_records.specs.RecordTexts.{record_text}
use Rattle.lease_records.specs.Values.{IsValue}
use Rattle.journal_sides.specs.declared.layout.TheConstants.{MOST_FRAMED, MOST_RECORDS}

-- the records' texts, one after the other
abbrev pub records_text : List Record → List ℕ
records_text batch = flat_map record_text batch

-- Records that may stand in one frame. Each has at least 9 octets.
pub record IsBatch (batch : List Record) : Type 0 where
  pub values : AllByRecursion IsValue batch
  pub some : 0 < length batch
  pub few : length batch ≤ MOST_RECORDS
  pub short : length (records_text batch) ≤ MOST_FRAMED

-- a frame behind its gate
abbrev pub frame_text : List Record → List ℕ
frame_text batch = to_be_bytes w32 (length (records_text batch)) ++ records_text batch

-- open frames of these batches, each behind the one before it
abbrev pub frames_text : List (List Record) → List ℕ
frames_text [] = []
frames_text (batch ∷ batches) = 1 ∷ (frame_text batch ++ frames_text batches)

-- the records of the batches, in order
abbrev pub records_of : List (List Record) → List Record
records_of [] = []
records_of (batch ∷ batches) = batch ++ records_of batches

-- how many octets frames of these records have with their gates, where all but the last are full
abbrev pub frames_octets : List Record → ℕ
frames_octets records = length (records_text records) + 5 * ((length records + 15) / 16)
