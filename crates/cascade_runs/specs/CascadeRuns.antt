-- The run of the command `cascade` (our own): which words begin it, and how it ended. Times are in milliseconds.
use Rattle.std.specs.Prelude.{◌≡◌, ℕ, ◌⊎◌, List, Option}
use Rattle.clap.specs.Words.{Text}
use Rattle.pcp_io.specs.Times.{IsTimeNow}
use Rattle.tool_commands.specs.declared.statuses.ToolStatus.{ToolStatus}
use Rattle.cascade_runs.specs.Cascading.{cascade_of, cascading}
use Rattle.relay_rates.specs.Rates.{rated}
use Rattle.relay_runs.specs.Ends.{Links}
use Rattle.relay_runs.specs.Statuses.{ByStatus, RunsRelay}
use Rattle.relay_words.specs.declared.asks.CascadeAsk.{CascadeAsk}
use Rattle.relay_words.specs.Relaying.{IsCascade}

-- the clock told a time, and nothing else was called
pub record TellsTime (time : ℕ) (old new : Links) : Type 0 where
  pub told : IsTimeNow old.times new.times time
  pub others : new ≡ record old { times = new.times }

-- a cascade began at a time that the clock told, and ran as its command says
pub record RunsFromTime (words : List Text) (filed : Option Text) (status : ToolStatus)
    (old new : Links) : Type 0 where
  pub time : ℕ
  pub begun : Links
  pub tells : TellsTime time old begun
  pub runs : RunsRelay (IsCascade words filed) (rated cascading)
      (λ ask. ask.command.relay.server) (cascade_of time) status begun new

-- With the text of the file that the words name. Words that are no command call nothing. Nor does a cascade for which no memory was found, but that the clock may have told the
-- time of its beginning.
abbrev pub RunsCascade : List Text → Option Text → ToolStatus → Links → Links → Type 0
RunsCascade words filed status old new = ByStatus
    (((ask : CascadeAsk) → ¬ IsCascade words filed ask) × (new ≡ old))
    ((new ≡ old) ⊎ ((time : ℕ) × TellsTime time old new))
    (RunsFromTime words filed status old new)
    status
