-- A disk in memory (our own).
use Rattle.std.specs.Prelude.{ℕ, ◌+◌, ◌^◌, ◌<◌, ◌⊎◌, min, List, [], ◌∷◌}
use Rattle.pcp_io.specs.CallLogs.{CallLog, no_calls, IsNamed}
use Rattle.lease_disk.specs.Steps.{DiskStep}
use Rattle.lease_disk.specs.Steps.DiskStep.{Wrote, Synced}

pub record DiskInMemory : Type 0 where
  -- what was done, latest first
  pub steps : List DiskStep
  -- how many octets it may hold
  pub room : ℕ
  pub calls : CallLog

-- a disk without an octet
abbrev pub new_disk : ℕ → DiskInMemory
new_disk room = record { steps = []; room = min room (2 ^ 62); calls = no_calls }

-- a disk of this room that holds these octets, synced
abbrev pub disk_with : List ℕ → ℕ → DiskInMemory
disk_with octets room = record { steps = Synced ∷ Wrote 0 octets ∷ []; room = room; calls = no_calls }

-- the next call is to fail, or the range of a write would pass the room
abbrev pub IsDiskWriteRefused : DiskInMemory → ℕ → ℕ → Type 0
IsDiskWriteRefused disk place n = IsNamed disk.calls ⊎ (disk.room < place + n)
