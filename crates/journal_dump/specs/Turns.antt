-- Pairs that are read one after the other (our own).
use Rattle.std.specs.Prelude.{◌≡◌, ℕ, List, Some, slice_get, slice_set, length}
use Rattle.std.specs.List.{AllZip}
use Rattle.serde_json.specs.Data.{Data}
use Rattle.pcp_base.specs.declared.configs.External.{External}
use Rattle.lease_disk.specs.declared.disks.DiskPair.{DiskPair}
use Rattle.journal_dump.specs.Dumps.{reading_value, reading_values}
use Rattle.journal_dump.specs.Readings.{JournalReading, IsReadingOf}

-- what becomes of one item of a list, and of no other
pub record ChangesAt {X : Type 0} (place : ℕ) (old new : List X) (How : X → X → Type 0)
    : Type 0 where
  pub before : X
  pub after : X
  pub was : slice_get old place ≡ Some before
  pub is : new ≡ slice_set old place after
  pub how : How before after

-- the value tells what a pair holds, where its disks tell it
pub record IsReadAs {D : Type 0} (tells : Type 0) (seen : D → List ℕ) (external : External)
    (pair : DiskPair D) (value : Data) : Type 0 where
  pub reading : JournalReading
  pub of_pair : tells → IsReadingOf (seen pair.a) (seen pair.b) reading
  pub tells_it : value ≡ reading_value external reading

-- the values tell what these pairs hold
pub record AreReadAs {D : Type 0} (tells : Type 0) (seen : D → List ℕ) (externals : List External)
    (pairs : List (DiskPair D)) (values : List Data) : Type 0 where
  pub readings : List JournalReading
  pub one_each : length readings ≡ length externals
  pub of_pairs : tells → AllZip (λ pair r. IsReadingOf (seen pair.a) (seen pair.b) r) pairs readings
  pub tell_them : values ≡ reading_values externals readings
