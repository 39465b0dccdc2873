-- What a status that is told stands for.
use Rattle.std.proofs.Common.{◌≡◌, ℕ, refl, ap}
use Rattle.journal_dump.specs.declared.faults.DumpFault.{DumpFault}
use Rattle.journal_dump.specs.declared.faults.DumpFault.TheVariants as Dump
use Rattle.lease_house.specs.declared.faults.HouseFault.{HouseFault}
use Rattle.lease_house.specs.declared.faults.HouseFault.TheVariants as House
use Rattle.load_player.specs.declared.player.LoadStatus.{LoadStatus}
use Rattle.load_player.specs.declared.player.LoadStatus.TheVariants as Load
use Rattle.script_player.specs.declared.player.PlayStatus.{PlayStatus}
use Rattle.script_player.specs.declared.player.PlayStatus.TheVariants as Play
use Rattle.server_commands.specs.declared.statuses.Status.TheVariants.{WordsRefused, ReadFault, WriteFault, DiskFault}
use Rattle.pcp_server.specs.Statuses.{loaded_as, played_as, undumped_as, unopened_as}

pub unopened-disk : (fault : HouseFault) (shard : ℕ) → unopened_as fault ≡ DiskFault shard → fault ≡ House.Disk shard
unopened-disk (House.Disk n) shard h = let same : n ≡ shard = cc in ap House.Disk same
unopened-disk House.Memory shard h = absurd cc

pub played-disk : (status : PlayStatus) (shard : ℕ) → played_as status ≡ DiskFault shard → status ≡ Play.DiskFault shard
played-disk Play.Done shard h = absurd cc
played-disk (Play.ScriptRefused n) shard h = absurd cc
played-disk Play.ReadFault shard h = absurd cc
played-disk Play.WriteFault shard h = absurd cc
played-disk (Play.DiskFault n) shard h = let same : n ≡ shard = cc in ap Play.DiskFault same
played-disk Play.Memory shard h = absurd cc

pub played-read : (status : PlayStatus) → played_as status ≡ ReadFault → status ≡ Play.ReadFault
played-read Play.Done h = absurd cc
played-read (Play.ScriptRefused n) h = absurd cc
played-read Play.ReadFault h = refl
played-read Play.WriteFault h = absurd cc
played-read (Play.DiskFault n) h = absurd cc
played-read Play.Memory h = absurd cc

pub played-write : (status : PlayStatus) → played_as status ≡ WriteFault → status ≡ Play.WriteFault
played-write Play.Done h = absurd cc
played-write (Play.ScriptRefused n) h = absurd cc
played-write Play.ReadFault h = absurd cc
played-write Play.WriteFault h = refl
played-write (Play.DiskFault n) h = absurd cc
played-write Play.Memory h = absurd cc

pub played-words : (status : PlayStatus) → played_as status ≡ WordsRefused → ⊥
played-words Play.Done h = absurd cc
played-words (Play.ScriptRefused n) h = absurd cc
played-words Play.ReadFault h = absurd cc
played-words Play.WriteFault h = absurd cc
played-words (Play.DiskFault n) h = absurd cc
played-words Play.Memory h = absurd cc

pub loaded-disk : (status : LoadStatus) (shard : ℕ) → loaded_as status ≡ DiskFault shard → status ≡ Load.DiskFault shard
loaded-disk Load.Done shard h = absurd cc
loaded-disk Load.WriteFault shard h = absurd cc
loaded-disk (Load.DiskFault n) shard h = let same : n ≡ shard = cc in ap Load.DiskFault same
loaded-disk Load.Memory shard h = absurd cc

pub loaded-write : (status : LoadStatus) → loaded_as status ≡ WriteFault → status ≡ Load.WriteFault
loaded-write Load.Done h = absurd cc
loaded-write Load.WriteFault h = refl
loaded-write (Load.DiskFault n) h = absurd cc
loaded-write Load.Memory h = absurd cc

pub loaded-read : (status : LoadStatus) → loaded_as status ≡ ReadFault → ⊥
loaded-read Load.Done h = absurd cc
loaded-read Load.WriteFault h = absurd cc
loaded-read (Load.DiskFault n) h = absurd cc
loaded-read Load.Memory h = absurd cc

pub loaded-words : (status : LoadStatus) → loaded_as status ≡ WordsRefused → ⊥
loaded-words Load.Done h = absurd cc
loaded-words Load.WriteFault h = absurd cc
loaded-words (Load.DiskFault n) h = absurd cc
loaded-words Load.Memory h = absurd cc

pub undumped-disk : (fault : DumpFault) (shard : ℕ) → undumped_as fault ≡ DiskFault shard → fault ≡ Dump.Disk shard
undumped-disk (Dump.Disk n) shard h = let same : n ≡ shard = cc in ap Dump.Disk same
undumped-disk Dump.Write shard h = absurd cc
undumped-disk Dump.Memory shard h = absurd cc

pub undumped-write : (fault : DumpFault) → undumped_as fault ≡ WriteFault → fault ≡ Dump.Write
undumped-write (Dump.Disk n) h = absurd cc
undumped-write Dump.Write h = refl
undumped-write Dump.Memory h = absurd cc

pub undumped-read : (fault : DumpFault) → undumped_as fault ≡ ReadFault → ⊥
undumped-read (Dump.Disk n) h = absurd cc
undumped-read Dump.Write h = absurd cc
undumped-read Dump.Memory h = absurd cc

pub undumped-words : (fault : DumpFault) → undumped_as fault ≡ WordsRefused → ⊥
undumped-words (Dump.Disk n) h = absurd cc
undumped-words Dump.Write h = absurd cc
undumped-words Dump.Memory h = absurd cc
