-- Whose outboxes, links and clocks are (our own).
use Rattle.std.specs.Prelude.{◌≡◌, ℕ, ◌+◌, List, [], ◌∷◌, ◌++◌, length, map, Option}
use Rattle.pcp_base.specs.declared.configs.TheConstants.{MOST_EXTERNALS}
use Rattle.pcp_base.specs.declared.datagrams.Datagram.{Datagram}
use Rattle.pcp_base.specs.declared.leases.Endpoint.{Endpoint}
use Rattle.pcp_io.specs.declared.inboxes.InboxItem.{InboxItem}
use Rattle.pcp_io.specs.declared.lane_links.LaneAsk.{LaneAsk}
use Rattle.pcp_io.specs.Times.{Times}
use Rattle.lane_index.specs.Lanes.{LaneKnowledge}
use Rattle.lane_loops.specs.LaneSets.{LinkState}
use Rattle.job_workers.specs.Stations.{OutState}

-- what all outboxes tell, and all links
abbrev pub outs_told : {O : Type 0} → (sent : O → Option (List Datagram)) → (faults : O → ℕ)
    → List O → List OutState
outs_told sent faults outs = map (λ o. record { sent = sent o; faults = faults o }) outs

abbrev pub links_told : {L : Type 0} → (asks : L → Option (List LaneAsk))
    → (answers : L → Option (List (Option Endpoint))) → (faults : L → ℕ) → List L → List LinkState
links_told asks answers faults links =
    map (λ l. record { asks = asks l; answers = answers l; faults = faults l }) links

-- what serves: for each external address the outbox and the clock of its worker, and the link and
-- the clock of its lane; and the outbox and the clock of the dispatcher
pub record Ends : Type 0 where
  pub outs : List OutState
  pub clocks : List (Option Times)
  pub links : List LinkState
  pub lane_clocks : List (Option Times)
  pub out : OutState
  pub clock : Option Times

-- those of external addresses that aren't
pub record Spares : Type 0 where
  pub outs : List OutState
  pub clocks : List (Option Times)
  pub links : List LinkState
  pub lane_clocks : List (Option Times)

-- all outboxes: those of the workers, and the dispatcher's
abbrev pub all_outs : Ends → Spares → List OutState
all_outs e s = (e.outs ++ s.outs) ++ e.out ∷ []

abbrev pub all_links : Ends → Spares → List LinkState
all_links e s = e.links ++ s.links

-- all clocks: those of the workers, those of the lanes, and the dispatcher's
abbrev pub all_clocks : Ends → Spares → List (Option Times)
all_clocks e s =
    ((e.clocks ++ s.clocks) ++ (e.lane_clocks ++ s.lane_clocks)) ++ e.clock ∷ []

-- what serving works on: the passes, the lanes, and of the inbox, the outboxes, the links and the
-- clocks what they tell
pub record BegunState (P : Type 0) : Type 0 where
  pub passes : List P
  pub lanes : List LaneKnowledge
  pub left : Option (List InboxItem)
  pub faults : ℕ
  pub outs : List OutState
  pub links : List LinkState
  pub clocks : List (Option Times)

-- So they are parted for this many external addresses, of `MOST_EXTERNALS`.
pub record ArePartsOf {P : Type 0} (count : ℕ) (e : Ends) (spare : Spares) (s : BegunState P)
    : Type 0 where
  pub outs : s.outs ≡ all_outs e spare
  pub links : s.links ≡ all_links e spare
  pub clocks : s.clocks ≡ all_clocks e spare
  pub out_count : length e.outs ≡ count
  pub clock_count : length e.clocks ≡ count
  pub link_count : length e.links ≡ count
  pub lane_clock_count : length e.lane_clocks ≡ count
  pub all_outs_count : count + length spare.outs ≡ MOST_EXTERNALS
  pub all_clocks_count : count + length spare.clocks ≡ MOST_EXTERNALS
  pub all_links_count : count + length spare.links ≡ MOST_EXTERNALS
  pub all_lane_clocks_count : count + length spare.lane_clocks ≡ MOST_EXTERNALS
