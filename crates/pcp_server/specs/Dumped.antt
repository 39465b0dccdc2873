-- How a `dump` ends, and what it leaves (our own).
use Rattle.std.specs.Prelude.{◌≡◌, ◌⊎◌, ℕ, List, length, take, Option}
use Rattle.std.specs.List.{AllZip}
use Rattle.std.specs.Io.KnownBytes.{append_known}
use Rattle.pcp_base.specs.declared.configs.Config.{Config}
use Rattle.pcp_io.specs.Writes.{WritesPart}
use Rattle.lease_disk.specs.declared.disks.DiskPair.{DiskPair}
use Rattle.journal_dump.specs.Dumps.{IsDump, IsOnlyRead}
use Rattle.server_commands.specs.declared.statuses.Status.{Status}
use Rattle.server_commands.specs.declared.statuses.Status.TheVariants.{Done, WordsRefused, ConfigRefused, ScriptRefused, ReadFault, WriteFault, DiskFault, Memory}
use Rattle.pcp_server.specs.Opened.{Accepts, AreUnused, EndsUnread}
use Rattle.pcp_server.specs.Outsides.{DiskMeanings, Outside}

-- some text of what the pairs hold, of which this is true
abbrev pub HasDump : {D : Type 0} → DiskMeanings D → Config → List (DiskPair D) →
    (List ℕ → Type 0) → Type 0
HasDump disks config pairs Is = (text : List ℕ)
    × IsDump disks.tells disks.seen config.externals (take (length config.externals) pairs) text
    × Is text

-- what is written of it, by the status
abbrev pub DumpsBy : {W D : Type 0} → DiskMeanings D → Config → (before now : Outside W D) →
    Status → Type 0
DumpsBy disks config before now Done = HasDump disks config before.pairs
    (λ text. now.held ≡ append_known before.held text)
DumpsBy disks config before now WriteFault = HasDump disks config before.pairs
    (WritesPart before.held now.held)
DumpsBy disks config before now (DiskFault shard) = now.out ≡ before.out
DumpsBy disks config before now Memory = now.out ≡ before.out
DumpsBy disks config before now WordsRefused = ⊥
DumpsBy disks config before now (ConfigRefused cause) = ⊥
DumpsBy disks config before now (ScriptRefused line) = ⊥
DumpsBy disks config before now ReadFault = ⊥

-- The disks of the external addresses are only read, and the other pairs have no call.
pub record OnlyReads {D : Type 0} (disks : DiskMeanings D) (config : Config)
    (before now : List (DiskPair D)) : Type 0 where
  pub read : AllZip (IsOnlyRead disks.tells disks.seen disks.moment disks.left_since
      disks.may_leave disks.faults)
      (take (length config.externals) before) (take (length config.externals) now)
  pub unused : AreUnused config before now

-- How a dump ended: at its configuration, or with these octets.
pub record DumpsServed {W D : Type 0} (disks : DiskMeanings D) (config : Config)
    (before now : Outside W D) (status : Status) : Type 0 where
  pub written : DumpsBy disks config before now status
  pub pairs : OnlyReads disks config before.pairs now.pairs

abbrev pub Dumps : {W D : Type 0} → DiskMeanings D →
    (source_before source_now : Option (List ℕ)) → (before now : Outside W D) → Status → Type 0
Dumps disks source_before source_now before now status =
    EndsUnread source_before source_now before now status
    ⊎ ((config : Config) × Accepts source_before source_now config
    × DumpsServed disks config before now status)
