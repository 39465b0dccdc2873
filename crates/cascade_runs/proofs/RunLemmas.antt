-- A command that was found, and the run of its cascade.
use Rattle.std.proofs.Common.{◌≡◌, ℕ, List, Option, Some, inr, subst}
use Rattle.clap.specs.Words.{Text}
use Rattle.client_commands.specs.Commands.{IsOnly}
use Rattle.tool_commands.specs.declared.statuses.ToolStatus.{ToolStatus}
use Rattle.tool_commands.specs.declared.statuses.ToolStatus.TheVariants as Statuses
use Rattle.relay_rates.specs.Rates.{Rated, rated}
use Rattle.relay_runs.specs.Ends.{EndsRelay, Links}
use Rattle.relay_words.specs.declared.asks.CascadeAsk.{CascadeAsk}
use Rattle.relay_words.specs.Relaying.{IsCascade}
use Rattle.cascade_runs.specs.CascadeRuns.{RunsCascade, RunsFromTime, TellsTime}
use Rattle.cascade_runs.specs.Cascading.{Announcing, cascade_of, cascading}

module _ (words : List Text) (filed : Option Text) where
  by_status : (status : ToolStatus) (old new : Links) → RunsFromTime words filed status old new → RunsCascade words filed status old new
  by_status Statuses.Done old new runs = runs
  by_status Statuses.LinkFault old new runs = runs
  by_status Statuses.Memory old new runs = inr runs
  by_status Statuses.WordsRefused old new runs = absurd runs.runs.ends
  by_status Statuses.WriteFault old new runs = runs
  by_status Statuses.EntropyFault old new runs = runs
  by_status Statuses.Silence old new runs = runs
  by_status (Statuses.Refused code) old new runs = runs
  by_status Statuses.OrderRefused old new runs = runs
  by_status Statuses.Turns old new runs = runs
  by_status Statuses.Stopped old new runs = runs

  -- what was found is said, and its cascade ran from a time
  pub runs_found : (found : Option CascadeAsk) (ask : CascadeAsk) (time : ℕ) (state : Rated Announcing) (status : ToolStatus) (old begun new : Links) → found ≡ Some ask
      → IsOnly (IsCascade words filed) found → TellsTime time old begun → state ≡ cascade_of time ask
      → EndsRelay (rated cascading) ask.command.relay.server state status begun new → RunsCascade words filed status old new
  runs_found found ask time state status old begun new is only tells begins ends =
      let said : IsOnly (IsCascade words filed) (Some ask) = subst (IsOnly (IsCascade words filed)) is only in
      by_status status old new (record {
        time = time;
        begun = begun;
        tells = tells;
        runs = record {
          command = ask;
          said = said.value;
          ends = subst (λ s. EndsRelay (rated cascading) ask.command.relay.server s status begun new) begins ends;
        };
      })
