-- How the program ends (our own): its exit status, and its line on standard error.
use Rattle.std.specs.Prelude.{ℕ, List, ◌++◌, codes, decimal}
use Rattle.server_commands.specs.declared.statuses.ConfigCause.{ConfigCause}
use Rattle.server_commands.specs.declared.statuses.ConfigCause.TheVariants.{TooLong, NotToml, NotConfig}
use Rattle.server_commands.specs.declared.statuses.Status.{Status}
use Rattle.server_commands.specs.declared.statuses.Status.TheVariants.{Done, WordsRefused, ConfigRefused, ScriptRefused, ReadFault, WriteFault, DiskFault, Memory}

abbrev pub exit_of : Status → ℕ
exit_of Done = 0
exit_of WordsRefused = 2
exit_of (ConfigRefused cause) = 3
exit_of (ScriptRefused line) = 4
exit_of ReadFault = 5
exit_of WriteFault = 6
exit_of (DiskFault shard) = 7
exit_of Memory = 8

abbrev pub cause_text : ConfigCause → List ℕ
cause_text TooLong = codes "too long"
cause_text NotToml = codes "not toml"
cause_text NotConfig = codes "not a configuration"

-- without its line feed; the program tells nothing where all was done
abbrev pub message_of : Status → List ℕ
message_of Done = codes "pcp: done"
message_of WordsRefused = codes "pcp: words refused"
message_of (ConfigRefused cause) = codes "pcp: configuration refused: " ++ cause_text cause
message_of (ScriptRefused line) = codes "pcp: script refused at line " ++ decimal line
message_of ReadFault = codes "pcp: read failed"
message_of WriteFault = codes "pcp: write failed"
message_of (DiskFault shard) = codes "pcp: disk of shard " ++ decimal shard ++ codes " failed"
message_of Memory = codes "pcp: out of memory"
