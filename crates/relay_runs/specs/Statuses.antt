-- How the call of a relay's command ended (our own).
use Rattle.std.specs.Prelude.{◌⊎◌}
use Rattle.pcp_base.specs.declared.addresses.Address.{Address}
use Rattle.tool_commands.specs.declared.statuses.ToolStatus.{ToolStatus}
use Rattle.tool_commands.specs.declared.statuses.ToolStatus.TheVariants.{WordsRefused, Memory}
use Rattle.relay_runs.specs.Ends.{EndsRelay, Links}
use Rattle.relay_runs.specs.Machines.{Machine}

-- The words say a command, and its relay ran and ended so: towards the server of the command, from
-- the state in which it begins.
pub record RunsRelay {C S : Type 0} (IsSaid : C → Type 0) (m : Machine S) (server : C → Address)
    (start : C → S) (status : ToolStatus) (old new : Links) : Type 0 where
  pub command : C
  pub said : IsSaid command
  pub ends : EndsRelay m (server command) (start command) status old new

-- By its status: the words were refused, no memory was found before a relay ran, or a relay ran.
abbrev pub ByStatus : (Refuses Starves Runs : Type 0) → ToolStatus → Type 0
ByStatus Refuses Starves Runs WordsRefused = Refuses
ByStatus Refuses Starves Runs Memory = Starves ⊎ Runs
ByStatus Refuses Starves Runs other = Runs
