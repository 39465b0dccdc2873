-- Why there is no configuration, by the call that tells it (our own; for private contracts).
use Rattle.config_source.specs.declared.reading.ConfigFault.{ConfigFault}
use Rattle.config_source.specs.declared.reading.ConfigFault.TheVariants.{Refused, Read, Memory}
use Rattle.pcp_config.specs.declared.texts.ConfigRefused.{ConfigRefused}
use Rattle.pcp_config.specs.declared.texts.ConfigRefused.TheVariants as Text
use Rattle.script_player.specs.declared.wholes.WholeFault.{WholeFault}
use Rattle.script_player.specs.declared.wholes.WholeFault.TheVariants as Whole
use Rattle.server_commands.specs.declared.statuses.ConfigCause.TheVariants.{TooLong, NotToml, NotConfig}

abbrev pub fault_of_whole : WholeFault → ConfigFault
fault_of_whole Whole.TooLong = Refused TooLong
fault_of_whole Whole.Read = Read
fault_of_whole Whole.Memory = Memory

abbrev pub fault_of_text : ConfigRefused → ConfigFault
fault_of_text Text.TooLong = Refused TooLong
fault_of_text Text.NotToml = Refused NotToml
fault_of_text Text.NotConfig = Refused NotConfig
fault_of_text Text.Memory = Memory
