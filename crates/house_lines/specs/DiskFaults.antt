-- The counts of faults of a house's disks (our own).
use Rattle.std.specs.Prelude.{ℕ, ◌==◌, if◌then◌else◌, slice_get}
use Rattle.std.specs.Option.{option_map_or}
use Rattle.lease_disk.specs.declared.disks.DiskPair.{DiskPair}
use Rattle.lease_house.specs.SoloHouses.{HouseView}

-- that of a disk of a pair: disk 0 is side a, and 1 is b
abbrev pub pair_faults : {D : Type 0} → (D → ℕ) → DiskPair D → (disk : ℕ) → ℕ
pair_faults faults pair disk =
    if disk == 0 then faults pair.a else if disk == 1 then faults pair.b else 0

-- that of a disk of the external address at this place
abbrev pub disk_faults : {D : Type 0} → (D → ℕ) → HouseView D → (place disk : ℕ) → ℕ
disk_faults faults house place disk =
    option_map_or (λ b. pair_faults faults b.journal.pair disk) (slice_get house.books place) 0
