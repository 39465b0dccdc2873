-- The status that a fault below is told as (our own).
use Rattle.config_source.specs.declared.reading.ConfigFault.{ConfigFault}
use Rattle.config_source.specs.declared.reading.ConfigFault.TheVariants as Config
use Rattle.journal_dump.specs.declared.faults.DumpFault.{DumpFault}
use Rattle.journal_dump.specs.declared.faults.DumpFault.TheVariants as Dump
use Rattle.lease_house.specs.declared.faults.HouseFault.{HouseFault}
use Rattle.lease_house.specs.declared.faults.HouseFault.TheVariants as House
use Rattle.load_player.specs.declared.player.LoadStatus.{LoadStatus}
use Rattle.load_player.specs.declared.player.LoadStatus.TheVariants as Load
use Rattle.script_player.specs.declared.player.PlayStatus.{PlayStatus}
use Rattle.script_player.specs.declared.player.PlayStatus.TheVariants as Play
use Rattle.server_commands.specs.declared.statuses.Status.{Status}
use Rattle.server_commands.specs.declared.statuses.Status.TheVariants.{Done, ConfigRefused, ScriptRefused, ReadFault, WriteFault, DiskFault, Memory}

abbrev pub unread_as : ConfigFault → Status
unread_as (Config.Refused cause) = ConfigRefused cause
unread_as Config.Read = ReadFault
unread_as Config.Memory = Memory

abbrev pub unopened_as : HouseFault → Status
unopened_as (House.Disk shard) = DiskFault shard
unopened_as House.Memory = Memory

abbrev pub played_as : PlayStatus → Status
played_as Play.Done = Done
played_as (Play.ScriptRefused line) = ScriptRefused line
played_as Play.ReadFault = ReadFault
played_as Play.WriteFault = WriteFault
played_as (Play.DiskFault shard) = DiskFault shard
played_as Play.Memory = Memory

abbrev pub loaded_as : LoadStatus → Status
loaded_as Load.Done = Done
loaded_as Load.WriteFault = WriteFault
loaded_as (Load.DiskFault shard) = DiskFault shard
loaded_as Load.Memory = Memory

abbrev pub undumped_as : DumpFault → Status
undumped_as (Dump.Disk shard) = DiskFault shard
undumped_as Dump.Write = WriteFault
undumped_as Dump.Memory = Memory
