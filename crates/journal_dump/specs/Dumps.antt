-- The text of a dump (our own).
use Rattle.std.specs.Prelude.{◌≡◌, ◌⊎◌, ℕ, List, [], ◌∷◌, ◌++◌, codes, length, slice_get, Some}
use Rattle.std.specs.List.{AllZip}
use Rattle.serde_json.specs.Data.{Data, string, array, object}
use Rattle.serde_json.specs.View.{items_of}
use Rattle.serde_json.specs.Written.{compact_text}
use Rattle.pcp_base.specs.declared.configs.External.{External}
use Rattle.pcp_io.specs.Faults.{HasRisen}
use Rattle.lease_disk.specs.declared.disks.DiskPair.{DiskPair}
use Rattle.lease_disk.specs.Pairs.{PairHasCause}
use Rattle.journal_sides.specs.Reads.{ArePairRead, AreSeenStill}
use Rattle.lease_json.specs.Objects.{address_value, maps_value, members, named, natural, peers_value}
use Rattle.journal_dump.specs.Readings.{JournalReading, IsReadingOf}
use Rattle.journal_dump.specs.Readings.JournalReading.{Recovered, Blank, Damaged}

-- the address is the configured one, also where the journal names another
abbrev pub reading_value : External → JournalReading → Data
reading_value e (Recovered s) = object (members (
    named (codes "address") (address_value e.address)
    ∷ named (codes "base") (natural s.base)
    ∷ named (codes "last") (natural s.last)
    ∷ named (codes "maps") (maps_value s.table.maps)
    ∷ named (codes "peers") (peers_value s.table.peers)
    ∷ named (codes "state") (string (codes "recovered"))
    ∷ []))
reading_value e Blank = object (members (
    named (codes "address") (address_value e.address)
    ∷ named (codes "state") (string (codes "blank"))
    ∷ []))
reading_value e Damaged = object (members (
    named (codes "address") (address_value e.address)
    ∷ named (codes "state") (string (codes "damaged"))
    ∷ []))

-- a value for each external address, in order, by what its journal is read as
abbrev pub reading_values : List External → List JournalReading → List Data
reading_values [] readings = []
reading_values (e ∷ es) [] = []
reading_values (e ∷ es) (r ∷ rs) = reading_value e r ∷ reading_values es rs

-- one JSON array without spaces, and a line feed
abbrev pub dump_text : List External → List JournalReading → List ℕ
dump_text externals readings =
    compact_text (array (items_of (reading_values externals readings))) ++ 10 ∷ []

-- the text of what these pairs hold, one for each external address, where their disks tell it
pub record IsDump {D : Type 0} (tells : Type 0) (seen : D → List ℕ) (externals : List External)
    (pairs : List (DiskPair D)) (text : List ℕ) : Type 0 where
  pub readings : List JournalReading
  pub one_each : length readings ≡ length externals
  pub are : tells → AllZip (λ pair r. IsReadingOf (seen pair.a) (seen pair.b) r) pairs readings
  pub spelled : text ≡ dump_text externals readings

-- a count of faults of the pair at this place has risen
pub record HasPairFault {D : Type 0} (faults : D → ℕ) (old new : List (DiskPair D))
    (place : ℕ) : Type 0 where
  pub before : DiskPair D
  pub after : DiskPair D
  pub was : slice_get old place ≡ Some before
  pub is : slice_get new place ≡ Some after
  pub risen : HasRisen (faults before.a) (faults after.a)
      ⊎ HasRisen (faults before.b) (faults after.b)

-- Nothing but reads was done on a pair: its disks hold what they held, a crash leaves what it left
-- before, and no count of faults has fallen.
pub record IsOnlyRead {D : Type 0} (tells : Type 0) (seen : D → List ℕ) (moment : D → ℕ)
    (left_since : D → ℕ → List ℕ → Type 0) (may_leave : D → List ℕ → Type 0) (faults : D → ℕ)
    (old new : DiskPair D) : Type 0 where
  pub read : ArePairRead moment left_since may_leave old new
  pub seen_still : tells → AreSeenStill seen old new
  pub later : PairHasCause faults old new ⊥
