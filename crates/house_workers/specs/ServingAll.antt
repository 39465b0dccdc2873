-- A house that is begun, served and ended (our own).
use Rattle.std.specs.Prelude.{◌≡◌, ℕ, List, Option, Result}
use Rattle.std.specs.List.{AllByRecursion}
use Rattle.pcp_base.specs.declared.configs.Config.{Config}
use Rattle.pcp_announce.specs.declared.doors.Group.{Group}
use Rattle.pcp_io.specs.declared.inboxes.InboxItem.{InboxItem}
use Rattle.pcp_io.specs.Times.{Times}
use Rattle.lease_disk.specs.declared.disks.DiskPair.{DiskPair}
use Rattle.lane_loops.specs.LaneSets.{LinkState}
use Rattle.job_workers.specs.declared.tallies.TallyRow.{TallyRow}
use Rattle.job_workers.specs.Stations.{OutState}
use Rattle.request_workers.specs.declared.faults.ServeFault.{ServeFault}
use Rattle.request_workers.specs.BegunHouses.{AnswersBegun}
use Rattle.request_workers.specs.Parts.{BegunState}
use Rattle.shared_house.specs.declared.beginning.Begun.{Begun}
use Rattle.turned_shards.specs.declared.passes.HousePass.{HousePass}
use Rattle.shared_house.specs.Beginnings.{Begins}
use Rattle.shared_house.specs.Endings.{AllKnowFirst, AreAtHome, EndsAll}
use Rattle.shared_house.specs.HouseCalls.{IsPassOf}
use Rattle.house_workers.specs.HouseCallsOf.{calls_of}

-- what inbox, outboxes, links and clocks tell
pub record Edges : Type 0 where
  pub left : Option (List InboxItem)
  pub faults : ℕ
  pub outs : List OutState
  pub links : List LinkState
  pub clocks : List (Option Times)

-- what serving begins with
abbrev pub begun_state : {D : Type 0} → Begun D → Edges → BegunState (HousePass D)
begun_state begun edges = record {
  passes = begun.passes.items;
  lanes = begun.lanes.items;
  left = edges.left;
  faults = edges.faults;
  outs = edges.outs;
  links = edges.links;
  clocks = edges.clocks;
}

module _ {D : Type 0} (tells : Type 0) (seen : D → List ℕ) (moment : D → ℕ)
    (left_since : D → ℕ → List ℕ → Type 0) (may_leave : D → List ℕ → Type 0) (faults : D → ℕ)
  where
    -- it is as `House::begin` gave it for this configuration, at some moment over some pairs
    pub record IsBegunFor (config : Config) (begun : Begun D) : Type 0 where
      pub moment_then : ℕ
      pub pairs : List (DiskPair D)
      pub config_is : begun.house.config ≡ config
      pub begins : Begins tells seen moment left_since may_leave faults config moment_then pairs
          begun
      pub passes : AllByRecursion (IsPassOf begun.house) begun.passes.items
      pub home : AreAtHome begun.house.turns begun.passes.items

    -- The house was served with the passes and lanes with which it began, and then it was ended with
    -- those that came back. What each lane knew then begins the records of the history that its pass
    -- has seen.
    pub record ServesToEnd (config : Config) (groups : List Group) (port : ℕ) (begun : Begun D)
        (old new : Edges) (result : Result (List TallyRow) ServeFault) (pairs : List (DiskPair D))
        : Type 0 where
      pub then : BegunState (HousePass D)
      pub edges : new ≡ record {
        left = then.left;
        faults = then.faults;
        outs = then.outs;
        links = then.links;
        clocks = then.clocks;
      }
      pub answers : AnswersBegun (calls_of tells seen moment left_since may_leave faults begun.house)
          config groups port begun.fresh (begun_state begun old) then result
      pub ended : List (HousePass D)
      pub ends : EndsAll tells seen moment left_since may_leave faults begun.house.turns then.passes ended
          begun.house.spare pairs
      pub lanes : AllKnowFirst begun.house.turns ended then.lanes
