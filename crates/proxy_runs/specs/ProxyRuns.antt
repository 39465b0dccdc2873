-- The run of the command `proxy` (our own): which words begin it, and how it ended.
use Rattle.std.specs.Prelude.{◌≡◌, List, Option}
use Rattle.clap.specs.Words.{Text}
use Rattle.tool_commands.specs.declared.statuses.ToolStatus.{ToolStatus}
use Rattle.proxy_runs.specs.Proxying.{proxying, relay_of}
use Rattle.relay_runs.specs.Ends.{Links}
use Rattle.relay_rates.specs.Rates.{rated}
use Rattle.relay_runs.specs.Statuses.{ByStatus, RunsRelay}
use Rattle.relay_words.specs.declared.asks.ProxyAsk.{ProxyAsk}
use Rattle.relay_words.specs.Relaying.{IsProxy}

-- With the text of the file that the words name. Words that are no command call nothing. Nor does a relay for which no memory was
-- found.
abbrev pub RunsProxy : List Text → Option Text → ToolStatus → Links → Links → Type 0
RunsProxy words filed status old new = ByStatus
    (((ask : ProxyAsk) → ¬ IsProxy words filed ask) × (new ≡ old))
    (new ≡ old)
    (RunsRelay (IsProxy words filed) (rated proxying) (λ ask. ask.command.server) relay_of
    status old new)
    status
