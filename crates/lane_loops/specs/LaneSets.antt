-- The loops of all lanes (our own).
use Rattle.std.specs.Prelude.{ℕ, List, [], ◌∷◌, Option}
use Rattle.std.specs.List.{AllZip}
use Rattle.pcp_base.specs.declared.leases.Endpoint.{Endpoint}
use Rattle.pcp_io.specs.declared.lane_links.LaneAsk.{LaneAsk}
use Rattle.pcp_io.specs.Times.{Times}
use Rattle.lane_index.specs.Lanes.{LaneKnowledge}
use Rattle.lane_loops.specs.LaneRuns.{LaneState, RunsLane}

-- what a link tells
pub record LinkState : Type 0 where
  pub asks : Option (List LaneAsk)
  pub answers : Option (List (Option Endpoint))
  pub faults : ℕ

abbrev pub lane_states : List LaneKnowledge → List LinkState → List (Option Times) → List LaneState
lane_states [] links times = []
lane_states (l ∷ ls) [] times = []
lane_states (l ∷ ls) (k ∷ ks) [] = []
lane_states (l ∷ ls) (k ∷ ks) (t ∷ ts) =
    record { lane = l; asks = k.asks; answers = k.answers; faults = k.faults; times = t }
    ∷ lane_states ls ks ts

-- the loop of each lane ran
abbrev pub AllRun : List LaneState → List LaneState → Type 0
AllRun old new = AllZip RunsLane old new
