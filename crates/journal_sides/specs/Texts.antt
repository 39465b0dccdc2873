-- Texts of records, and the records that are in them (our own).
use Rattle.std.specs.Prelude.{◌≡◌, ℕ, zero, suc, ◌≤◌, List, [], ◌∷◌, length, drop, Some, None}
use Rattle.std.specs.List.{AllByRecursion}
use Rattle.pcp_base.specs.declared.records.Record.{Record}
use Rattle.pcp_base.specs.Records.{IsWellFormedRecord}
use Rattle.lease_records.specs.RecordReading.{record_at}
use Rattle.lease_records.specs.Values.{IsValue}
use Rattle.journal_sides.specs.Frames.{records_text}

-- at most so many records, one after the other from the front of the octets
abbrev pub records_at : ℕ → List ℕ → List Record
records_at zero octets = []
records_at (suc n) octets =
    elim (record_at octets) [ Some found ↦ found.0 ∷ records_at n found.1 | None ↦ [] ]

-- the records whose texts these octets are
abbrev pub records_in : List ℕ → List Record
records_in octets = records_at (length octets) octets

-- the octets are the texts of these well formed records
pub record AreTexts (octets : List ℕ) (records : List Record) : Type 0 where
  pub text : octets ≡ records_text records
  pub values : AllByRecursion IsValue records
  pub formed : AllByRecursion IsWellFormedRecord records

-- from this place on stand the texts of the records that follow the first n
pub record AreBehind (octets : List ℕ) (records : List Record) (n at : ℕ) : Type 0 where
  pub within : at ≤ length octets
  pub left : AreTexts (drop at octets) (drop n records)
