-- A command that was found, and the run of its relay.
use Rattle.std.proofs.Common.{◌≡◌, Option, Some, inr, subst}
use Rattle.pcp_base.specs.declared.addresses.Address.{Address}
use Rattle.client_commands.specs.Commands.{IsOnly}
use Rattle.tool_commands.specs.declared.statuses.ToolStatus.{ToolStatus}
use Rattle.tool_commands.specs.declared.statuses.ToolStatus.TheVariants as Statuses
use Rattle.relay_runs.specs.Ends.{EndsRelay, Links}
use Rattle.relay_runs.specs.Machines.{Machine}
use Rattle.relay_runs.specs.Statuses.{ByStatus, RunsRelay}

module _ {C S : Type 0} (IsSaid : C → Type 0) (m : Machine S) (server : C → Address) (start : C → S) (Refuses Starves : Type 0) where
  by_status : (status : ToolStatus) (old new : Links) → RunsRelay IsSaid m server start status old new
      → ByStatus Refuses Starves (RunsRelay IsSaid m server start status old new) status
  by_status Statuses.Done old new runs = runs
  by_status Statuses.LinkFault old new runs = runs
  by_status Statuses.Memory old new runs = inr runs
  by_status Statuses.WordsRefused old new runs = absurd runs.ends
  by_status Statuses.WriteFault old new runs = runs
  by_status Statuses.EntropyFault old new runs = runs
  by_status Statuses.Silence old new runs = runs
  by_status (Statuses.Refused code) old new runs = runs
  by_status Statuses.OrderRefused old new runs = runs
  by_status Statuses.Turns old new runs = runs
  by_status Statuses.Stopped old new runs = runs

  -- what was found is said, and its relay ran
  pub runs_found : (found : Option C) (c : C) (state : S) (status : ToolStatus) (old new : Links) → found ≡ Some c → IsOnly IsSaid found → state ≡ start c
      → EndsRelay m (server c) state status old new → ByStatus Refuses Starves (RunsRelay IsSaid m server start status old new) status
  runs_found found c state status old new is only begins ends =
      let said : IsOnly IsSaid (Some c) = subst (IsOnly IsSaid) is only in
      by_status status old new (record {
        command = c;
        said = said.value;
        ends = subst (λ (s : S). EndsRelay m (server c) s status old new) begins ends;
      })
