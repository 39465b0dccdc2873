-- The dispatcher's part of a run.
use Rattle.std.proofs.Common.{ℕ, ◌≡◌, List, [], Result, Ok, Err, refl, sym, subst}
use Rattle.pcp_base.specs.declared.configs.Config.{Config}
use Rattle.pcp_base.specs.declared.errors.Failed.{Failed}
use Rattle.pcp_announce.specs.declared.doors.Group.{Group}
use Rattle.job_workers.specs.HouseCalls.{HouseCalls}
use Rattle.job_dispatch.specs.Dispatches.{Dispatched}
use Rattle.job_dispatch.specs.Dispatching.{DispatchState, DoesSteps, RunsDispatcher}
use Rattle.job_dispatch.proofs.PortLemmas.{are_none}
use Rattle.request_workers.specs.declared.faults.RunFault.{RunFault}
use Rattle.request_workers.specs.declared.faults.RunFault.TheVariants as RunFaults
use Rattle.request_workers.specs.Leads.{Leads, led_as}

pub leads : {P : Type 0} (house : HouseCalls P) (config : Config) (groups : List Group) (port : ℕ) (a b : DispatchState P) (read : Result (Unit {0}) Failed)
    → RunsDispatcher house config groups port a b read → Leads house config groups port a b (led_as read)
leads house config groups port a b (Ok done) runs = record { dispatched = runs.dispatched; how = (runs, refl); ports = runs.ports }
leads house config groups port a b (Err fault) runs = record { dispatched = runs.dispatched; how = (runs, refl); ports = runs.ports }

-- nothing was dispatched
pub leads_nobody : {P : Type 0} (house : HouseCalls P) (config : Config) (groups : List Group) (port : ℕ) (a : DispatchState P) → Leads house config groups port a a (Err RunFaults.Threads)
leads_nobody house config groups port a = record { dispatched = []; how = (refl, refl); ports = are_none 0 a.ports }

-- what was done, however it ended
pub does_all : {P : Type 0} (house : HouseCalls P) (config : Config) (groups : List Group) (port : ℕ) (a b : DispatchState P) (result : Result (Unit {0}) RunFault)
    → (l : Leads house config groups port a b result) → (last : DispatchState P) × DoesSteps house config groups port l.dispatched a last
does_all house config groups port a b (Ok done) l =
    (l.how.0.last, subst (λ (ds : List Dispatched). DoesSteps house config groups port ds a l.how.0.last) l.how.1 l.how.0.does)
does_all house config groups port a b (Err (RunFaults.Inbox fault)) l =
    (l.how.0.last, subst (λ (ds : List Dispatched). DoesSteps house config groups port ds a l.how.0.last) l.how.1 l.how.0.does)
does_all house config groups port a b (Err RunFaults.Threads) l = (a, none l.dispatched l.how.0)
  where
    none : (ds : List Dispatched) → ds ≡ [] → DoesSteps house config groups port ds a a
    none ds is = subst (λ (xs : List Dispatched). DoesSteps house config groups port xs a a) (sym is) refl
