-- Records that are kept by their texts (our own).
use Rattle.std.specs.Prelude.{ℕ, ◌≤◌, List, length, take, drop}
use Rattle.pcp_base.specs.declared.records.Record.{Record}
use Rattle.journal_sides.specs.Texts.{AreTexts, records_in}

pub record KeptRecords : Type 0 where
  -- those that are kept for good
  pub sure : List Record
  -- those that were added since
  pub added : List Record

-- the texts of both, the first ones up to this place
pub record AreKeptAt (octets : List ℕ) (place : ℕ) : Type 0 where
  pub within : place ≤ length octets
  pub sure : AreTexts (take place octets) (records_in (take place octets))
  pub added : AreTexts (drop place octets) (records_in (drop place octets))
