-- How the program ends after a tool's command (our own): its exit status, and its line on standard error.
use Rattle.std.specs.Prelude.{ℕ, List, ◌++◌, codes, decimal}
use Rattle.pcp_base.specs.Codes.{code_number}
use Rattle.tool_commands.specs.declared.statuses.ToolStatus.{ToolStatus}
use Rattle.tool_commands.specs.declared.statuses.ToolStatus.TheVariants.{Done, WordsRefused, LinkFault, WriteFault, Memory, EntropyFault, Silence, Refused, OrderRefused, Turns, Stopped}

abbrev pub exit_of : ToolStatus → ℕ
exit_of Done = 0
exit_of WordsRefused = 2
exit_of LinkFault = 5
exit_of WriteFault = 6
exit_of Memory = 8
exit_of EntropyFault = 10
exit_of Silence = 11
exit_of (Refused code) = 12
exit_of OrderRefused = 12
exit_of Turns = 13
exit_of Stopped = 14

-- without its line feed; the program tells nothing where all was done
abbrev pub message_of : ToolStatus → List ℕ
message_of Done = codes "pcp: done"
message_of WordsRefused = codes "pcp: words refused"
message_of LinkFault = codes "pcp: read failed"
message_of WriteFault = codes "pcp: write failed"
message_of Memory = codes "pcp: out of memory"
message_of EntropyFault = codes "pcp: no random word"
message_of Silence = codes "pcp: no answer"
message_of (Refused code) = codes "pcp: refused with code " ++ decimal (code_number code)
message_of OrderRefused = codes "pcp: refused"
message_of Turns = codes "pcp: too many turns"
message_of Stopped = codes "pcp: stopped"
