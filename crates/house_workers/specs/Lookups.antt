-- What lanes answer while a house is served (our own).
use Rattle.std.specs.Prelude.{◌≡◌, ℕ, ◌/◌, List, [], ◌∷◌, Option, Result, Some}
use Rattle.std.specs.List.{slice_get}
use mathlib.Core.List.{IsPrefix}
use Rattle.pcp_base.specs.declared.configs.Config.{Config}
use Rattle.pcp_base.specs.declared.datagrams.Entry.{Entry}
use Rattle.pcp_base.specs.declared.leases.Endpoint.{Endpoint}
use Rattle.pcp_base.specs.declared.records.Record.{Record}
use Rattle.pcp_base.specs.Apply.{apply_all}
use Rattle.pcp_base.specs.States.{State}
use Rattle.filter_rules.specs.Lookups.{look}
use Rattle.pcp_announce.specs.declared.doors.Group.{Group}
use Rattle.pcp_io.specs.declared.lane_links.LaneAsk.TheVariants.{Look, Quiet}
use Rattle.pcp_io.specs.Asks.{IsNextAsk, answers_with}
use Rattle.pcp_io.specs.Times.{IsTimeNow}
use Rattle.lease_disk.specs.declared.disks.DiskPair.{DiskPair}
use Rattle.lane_loops.specs.LaneRuns.{Answered, EndsLane, Hears, Idle, LaneQuestion, LaneState}
use Rattle.lane_loops.specs.LaneRuns.{LaneStep}
use Rattle.lane_loops.specs.LaneSets.{lane_states}
use Rattle.lease_histories.specs.Legal.{records_of}
use Rattle.turn_lock.specs.Passes.{TurnName}
use Rattle.job_workers.specs.declared.tallies.TallyRow.{TallyRow}
use Rattle.request_workers.specs.declared.faults.RunFault.{RunFault}
use Rattle.request_workers.specs.declared.faults.ServeFault.{ServeFault}
use Rattle.request_workers.specs.BegunHouses.{ServesBegun}
use Rattle.turned_shards.specs.declared.openings.Opening.{Opening}
use Rattle.turned_shards.specs.declared.passes.HousePass.{HousePass}
use Rattle.shared_house.specs.declared.beginning.Begun.{Begun}
use Rattle.shared_house.specs.Beginnings.{Begins}
use Rattle.house_workers.specs.HouseCallsOf.{calls_of}
use Rattle.house_workers.specs.ServingAll.{Edges, ServesToEnd, begun_state}

-- the link asked this, and took the owner that these records leave, behind this state, at the second
-- that the clock told
pub record AnswersAfter (s : State) (shown : List Record) (q : LaneQuestion)
    (owner : Option Endpoint) (old new : LaneState) : Type 0 where
  pub asked : IsNextAsk old.asks new.asks (Look q.protocol q.port q.remote q.remote_port)
  pub time : ℕ
  pub clock : IsTimeNow old.times new.times time
  pub owner_is : owner
      ≡ look (apply_all s shown) q.protocol q.port q.remote q.remote_port (time / 1000)
  pub taken : new.answers ≡ answers_with old.answers owner

-- Each answer is by first records of all, and by no fewer than the one before, or than those that
-- were known.
abbrev pub AnswersAlong : State → (all known : List Record) → List LaneStep → (old new : LaneState)
    → Type 0
AnswersAlong s all known [] old new = (new ≡ old) × IsPrefix known all
AnswersAlong s all known (Answered q owner ∷ steps) old new =
    (mid : LaneState) × (shown : List Record) × IsPrefix known shown
    × AnswersAfter s shown q owner old mid × AnswersAlong s all shown steps mid new
AnswersAlong s all known (Idle ∷ steps) old new =
    (mid : LaneState) × Hears Quiet old mid × AnswersAlong s all known steps mid new

-- a lane ran, and all that it answered is by first records of the history
pub record LooksAlong (s : State) (history : List Entry) (old new : LaneState) : Type 0 where
  pub steps : List LaneStep
  pub last : LaneState
  pub answers : AnswersAlong s (records_of history) [] steps old last
  pub ends : EndsLane last new

module _ (D : Type 0) (tells : Type 0) (seen : D → List ℕ) (moment : D → ℕ)
    (left_since : D → ℕ → List ℕ → Type 0) (may_leave : D → List ℕ → Type 0) (faults : D → ℕ)
  where
    -- A house that was opened, served and ended: what the lane of each external address answered is
    -- by first records of the history that its pass has seen at the end, from the state of its
    -- opening on.
    abbrev pub LookupsAreOfHistories : Type 0
    LookupsAreOfHistories = (config : Config) (groups : List Group) (port m : ℕ)
        (before pairs : List (DiskPair D)) (begun : Begun D) (old new : Edges)
        (result : Result (List TallyRow) ServeFault) (read : Result (Unit {0}) RunFault)
        (rows : List TallyRow) →
        Begins tells seen moment left_since may_leave faults config m before begun →
        (serves : ServesToEnd tells seen moment left_since may_leave faults config groups port begun
        old new result pairs) →
        (ran : ServesBegun (calls_of tells seen moment left_since may_leave faults begun.house)
        config groups port begun.fresh (begun_state begun old) serves.then read rows) →
        (place : ℕ) (turn : TurnName (Opening D)) (last : HousePass D) (was is : LaneState) →
        slice_get begun.house.turns place ≡ Some turn →
        slice_get serves.ended place ≡ Some last →
        slice_get (lane_states begun.lanes.items ran.served.before.links
        ran.served.before.lane_clocks) place ≡ Some was →
        slice_get (lane_states serves.then.lanes ran.served.after.links
        ran.served.after.lane_clocks) place ≡ Some is →
        LooksAlong turn.key.book.state last.history.seen was is
