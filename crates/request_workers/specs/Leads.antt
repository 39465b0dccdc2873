-- The dispatcher's part of a run of all threads (our own).
use Rattle.std.specs.Prelude.{◌≡◌, ℕ, List, [], Result, Ok, Err}
use Rattle.pcp_base.specs.declared.configs.Config.{Config}
use Rattle.pcp_base.specs.declared.errors.Failed.{Failed}
use Rattle.pcp_announce.specs.declared.doors.Group.{Group}
use Rattle.job_workers.specs.HouseCalls.{HouseCalls}
use Rattle.job_dispatch.specs.Dispatches.{Dispatched}
use Rattle.job_dispatch.specs.Dispatching.{DispatchState, RunsDispatcher}
use Rattle.job_dispatch.specs.PortsAfter.{ArePortsAfter}
use Rattle.request_workers.specs.declared.faults.RunFault.{RunFault}
use Rattle.request_workers.specs.declared.faults.RunFault.TheVariants as RunFaults

-- the dispatcher's result, as that of a run
abbrev pub led_as : Result (Unit {0}) Failed → Result (Unit {0}) RunFault
led_as (Ok done) = Ok done
led_as (Err fault) = Err (RunFaults.Inbox fault)

module _ {P : Type 0} (house : HouseCalls P) (config : Config) (groups : List Group) (port : ℕ)
  where
    -- The dispatcher did this, until the inbox stopped or failed. Where threads are missing it did
    -- nothing: nothing was taken from the inbox, put, counted or announced.
    abbrev pub LeadsBy : List Dispatched → (old new : DispatchState P)
        → Result (Unit {0}) RunFault → Type 0
    LeadsBy ds old new (Ok done) =
        (runs : RunsDispatcher house config groups port old new (Ok done)) × (runs.dispatched ≡ ds)
    LeadsBy ds old new (Err (RunFaults.Inbox fault)) =
        (runs : RunsDispatcher house config groups port old new (Err fault)) × (runs.dispatched ≡ ds)
    LeadsBy ds old new (Err RunFaults.Threads) = (ds ≡ []) × (new ≡ old)

    pub record Leads (old new : DispatchState P) (result : Result (Unit {0}) RunFault)
        : Type 0 where
      pub dispatched : List Dispatched
      pub how : LeadsBy dispatched old new result
      -- so each port has put, and counted, what was done
      pub ports : ArePortsAfter 0 dispatched old.ports new.ports
