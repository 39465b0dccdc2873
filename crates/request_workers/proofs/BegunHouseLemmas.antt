-- A house that has begun is served.
use Rattle.std.proofs.Common.{◌≡◌, ◌≤◌, ℕ, Bool, List, [], ◌∷◌, length, Result, Ok, Err, sym, ap, ◌∙◌, subst, arith}
use Rattle.std.proofs.lemmas.List.{length-map}
use Rattle.pcp_base.specs.declared.configs.Config.{Config}
use Rattle.pcp_base.specs.declared.errors.Failed.{Failed}
use Rattle.pcp_announce.specs.declared.doors.Group.{Group}
use Rattle.pcp_io.specs.Faults.{HasRisen}
use Rattle.job_workers.specs.declared.tallies.TallyRow.{TallyRow}
use Rattle.job_workers.specs.HouseCalls.{HouseCalls}
use Rattle.job_dispatch.specs.Dispatches.{Dispatched, Given, Late}
use Rattle.job_dispatch.specs.Dispatching.{DispatchState, DoesStep, DoesSteps, RunsDispatcher}
use Rattle.job_dispatch.proofs.DispatchingLemmas.{risen_behind}
use Rattle.request_workers.specs.declared.faults.RunFault.{RunFault}
use Rattle.request_workers.specs.declared.faults.RunFault.TheVariants as RunFaults
use Rattle.request_workers.specs.BegunHouses.{AnswersBegun, ServesBegun, ServesParts, served_as}
use Rattle.request_workers.specs.Parts.{BegunState}
use Rattle.request_workers.specs.Passes.{SplitsFirst}
use Rattle.request_workers.specs.Seats.{ArePasses}
use Rattle.request_workers.specs.Served.{ShardRun}
use Rattle.request_workers.proofs.PassLemmas.{passes_stay}

faults_after : {P : Type 0} (house : HouseCalls P) (config : Config) (groups : List Group) (port : ℕ) (d : Dispatched) (a b : DispatchState P)
    → DoesStep house config groups port d a b → a.faults ≤ b.faults
faults_after house config groups port (Given item fate) a b h = h.later
faults_after {P} house config groups port (Late shard) a b h =
    let e : b.faults ≡ a.faults = ap (λ (s : DispatchState P). s.faults) h.1 in
    omega (arith, e)

faults_later : {P : Type 0} (house : HouseCalls P) (config : Config) (groups : List Group) (port : ℕ) (ds : List Dispatched) (a b : DispatchState P)
    → DoesSteps house config groups port ds a b → a.faults ≤ b.faults
faults_later {P} house config groups port [] a b h =
    let e : b.faults ≡ a.faults = ap (λ (s : DispatchState P). s.faults) h in
    omega (arith, e)
faults_later house config groups port (d ∷ ds) a b h =
    let first = faults_after house config groups port d a h.0 h.1 in
    let rest = faults_later house config groups port ds h.0 b h.2 in
    omega (arith, first, rest)

-- the inbox failed: its count rose since the beginning
pub risen : {P : Type 0} (house : HouseCalls P) (config : Config) (groups : List Group) (port : ℕ) (a b : DispatchState P) (fault : Failed)
    → RunsDispatcher house config groups port a b (Err fault) → HasRisen a.faults b.faults
risen house config groups port a b fault h =
    risen_behind a.faults h.last.faults b.faults (faults_later house config groups port h.dispatched a h.last h.does) h.ends.fault

pub begun_of : {P : Type 0} (house : HouseCalls P) (config : Config) (groups : List Group) (port : ℕ) (fresh : Bool)
    (old new : BegunState P) (passes : List P) (asking asked : P) (read : Result (Unit {0}) RunFault) (rows : List TallyRow)
    → SplitsFirst house old.passes passes asking
    → ServesParts house config groups port fresh asking asked (record old { passes = passes }) new read rows
    → ServesBegun house config groups port fresh old new read rows
begun_of {P} house config groups port fresh old new passes asking asked read rows splits served =
    let runs = served.serves.runs in
    record {
      passes = passes;
      asking = asking;
      asked = asked;
      splits = splits;
      served = served;
      stay = subst (λ (l : List P). ArePasses house 0 l) (sym runs.passes_are)
          (passes_stay house 0 runs.runs.dispatched runs.shards runs.each
          (subst (λ (l : List P). ArePasses house 0 l) runs.seated_were splits.passes));
      count = ap length runs.passes_are ∙ (length-map runs.shards (λ (r : ShardRun P). r.new.pass)
          ∙ (sym (length-map runs.shards (λ (r : ShardRun P). r.old.pass))
          ∙ (sym (ap length runs.seated_were) ∙ (ap length splits.new_is ∙ sym (ap length splits.old_is)))));
    }

-- so it was until a fault
pub fails_begun : {P : Type 0} (house : HouseCalls P) (config : Config) (groups : List Group) (port : ℕ) (fresh : Bool)
    (old new : BegunState P) (passes : List P) (asking asked : P) (read : Result (Unit {0}) RunFault) (fault : RunFault) (rows : List TallyRow)
    → read ≡ Err fault
    → SplitsFirst house old.passes passes asking
    → ServesParts house config groups port fresh asking asked (record old { passes = passes }) new read rows
    → AnswersBegun house config groups port fresh old new (Err (served_as fault))
fails_begun {P} house config groups port fresh old new passes asking asked read (RunFaults.Inbox fault) rows is splits served =
    let failed : ServesParts house config groups port fresh asking asked (record old { passes = passes }) new (Err (RunFaults.Inbox fault)) rows =
    subst (λ (r : Result (Unit {0}) RunFault). ServesParts house config groups port fresh asking asked (record old { passes = passes }) new r rows) is served in
    record {
      fault = fault;
      rows = rows;
      served = begun_of house config groups port fresh old new passes asking asked (Err (RunFaults.Inbox fault)) rows splits failed;
      risen = risen house config groups port _ _ fault failed.serves.runs.runs.how.0;
    }
fails_begun {P} house config groups port fresh old new passes asking asked read RunFaults.Threads rows is splits served =
    let lacks : ServesParts house config groups port fresh asking asked (record old { passes = passes }) new (Err RunFaults.Threads) rows =
    subst (λ (r : Result (Unit {0}) RunFault). ServesParts house config groups port fresh asking asked (record old { passes = passes }) new r rows) is served in
    let still = lacks.serves.runs.runs.how.1 in
    record {
      rows = rows;
      served = begun_of house config groups port fresh old new passes asking asked (Err RunFaults.Threads) rows splits lacks;
      inbox = (ap (λ (s : DispatchState P). s.left) still, ap (λ (s : DispatchState P). s.faults) still);
    }

-- so it was until the inbox stopped
pub serves_begun : {P : Type 0} (house : HouseCalls P) (config : Config) (groups : List Group) (port : ℕ) (fresh : Bool)
    (old new : BegunState P) (passes : List P) (asking asked : P) (read : Result (Unit {0}) RunFault) (rows tally : List TallyRow)
    → read ≡ Ok tt → tally ≡ rows
    → SplitsFirst house old.passes passes asking
    → ServesParts house config groups port fresh asking asked (record old { passes = passes }) new read rows
    → ServesBegun house config groups port fresh old new (Ok tt) tally
serves_begun {P} house config groups port fresh old new passes asking asked read rows tally is same splits served =
    let done : ServesParts house config groups port fresh asking asked (record old { passes = passes }) new (Ok tt) tally =
    subst (λ (l : List TallyRow). ServesParts house config groups port fresh asking asked (record old { passes = passes }) new (Ok tt) l) (sym same)
    (subst (λ (r : Result (Unit {0}) RunFault). ServesParts house config groups port fresh asking asked (record old { passes = passes }) new r rows) is served) in
    begun_of house config groups port fresh old new passes asking asked (Ok tt) tally splits done
