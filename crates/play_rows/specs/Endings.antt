-- How a command may end that isn't refused (our own).
use Rattle.std.specs.Prelude.{ℕ, ⊤}
use Rattle.server_commands.specs.declared.statuses.Status.{Status}
use Rattle.server_commands.specs.declared.statuses.Status.TheVariants.{Done, WordsRefused, ConfigRefused, ScriptRefused, ReadFault, WriteFault, DiskFault, Memory}

-- It is done, or memory was wanting, or this is true of the fault that it tells.
abbrev pub IsDoneUnless : (read write : Type 0) → (disk : ℕ → Type 0) → Status → Type 0
IsDoneUnless read write disk Done = ⊤
IsDoneUnless read write disk Memory = ⊤
IsDoneUnless read write disk ReadFault = read
IsDoneUnless read write disk WriteFault = write
IsDoneUnless read write disk (DiskFault shard) = disk shard
IsDoneUnless read write disk WordsRefused = ⊥
IsDoneUnless read write disk (ConfigRefused cause) = ⊥
IsDoneUnless read write disk (ScriptRefused line) = ⊥
