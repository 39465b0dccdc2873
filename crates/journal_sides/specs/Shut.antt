-- A side with a gate that isn't open (our own).
use Rattle.std.specs.Prelude.{◌≡◌, ◌≢◌, ℕ, ◌<◌, List, [], ◌∷◌, ◌++◌, length, get_or, drop, ⊤}
use Rattle.std.specs.List.{AllByRecursion}
use Rattle.pcp_base.specs.declared.records.Record.{Record}
use Rattle.journal_sides.specs.declared.formats.Format.TheVariants.{Second}
use Rattle.journal_sides.specs.declared.layout.TheConstants.{MOST_RECORDS}
use Rattle.journal_sides.specs.Frames.{IsBatch, frames_text, records_of}
use Rattle.journal_sides.specs.Sides.{side_text}

pub record IsShut (octets : List ℕ) : Type 0 where
  pub some : 0 < length octets
  pub gate : get_or octets 0 0 ≢ 1

-- All that stands behind the gate of a side in the format that is written, up to the gate that ends
-- its walk.
abbrev pub hidden_text : ℕ → List (List Record) → List ℕ
hidden_text generation batches = drop 1 (side_text Second generation batches)

-- all batches but the last have as many records as a frame takes
abbrev pub AreFull : List (List Record) → Type 0
AreFull [] = ⊤
AreFull (batch ∷ []) = ⊤
AreFull (batch ∷ next ∷ batches) = (length batch ≡ MOST_RECORDS) × AreFull (next ∷ batches)

-- these records, in batches, as they stand behind the gate of a side of this generation
pub record IsHidden (generation : ℕ) (records : List Record) (octets : List ℕ) : Type 0 where
  pub batches : List (List Record)
  pub some : 0 < length batches
  pub each : AllByRecursion IsBatch batches
  pub full : AreFull batches
  pub holds : records_of batches ≡ records
  pub text : octets ≡ hidden_text generation batches ++ 0 ∷ []

-- these records, in batches, as open frames behind what stood there
pub record AreFramed (records : List Record) (old new : List ℕ) : Type 0 where
  pub batches : List (List Record)
  pub each : AllByRecursion IsBatch batches
  pub full : AreFull batches
  pub holds : records_of batches ≡ records
  pub text : new ≡ old ++ frames_text batches

-- these records, in batches, as they stand behind the gate of the first frame
pub record AreAppended (records : List Record) (octets : List ℕ) : Type 0 where
  pub batches : List (List Record)
  pub some : 0 < length batches
  pub each : AllByRecursion IsBatch batches
  pub full : AreFull batches
  pub holds : records_of batches ≡ records
  pub text : octets ≡ drop 1 (frames_text batches) ++ 0 ∷ []
