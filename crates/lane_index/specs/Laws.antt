-- What lookups depend on, and who knows what of an index (our own).
use Rattle.std.specs.Prelude.{◌≡◌, ℕ, List, Option, Some}
use mathlib.Core.Option.{some}
use mathlib.Core.List.{IsPrefix}
use lib.ListN.{get_elem?}
use Rattle.pcp_base.specs.declared.addresses.Address.{Address}
use Rattle.pcp_base.specs.declared.leases.Protocol.{Protocol}
use Rattle.pcp_base.specs.declared.records.Record.{Record}
use Rattle.pcp_base.specs.States.{State}
use Rattle.pcp_base.specs.Apply.{apply_all}
use Rattle.filter_rules.specs.Lookups.{look}
use Rattle.lane_index.specs.declared.history.Reached.{Reached}
use Rattle.lane_index.specs.declared.replicas.Replica.{Replica}
use Rattle.lane_index.specs.Histories.{added_in}
use Rattle.lane_index.specs.Lanes.{opening_state}
use Rattle.lane_index.specs.Shown.{IsShown}

-- after any records, a lookup is the same from a state with the same table and last moment
abbrev pub LooksDependOnTables : Type 0
LooksDependOnTables =
    (s : State) (rs : List Record) (protocol : Protocol) (port : ℕ) (remote : Address)
    (remote_port m : ℕ)
    → look (apply_all (opening_state s.table.maps s.table.peers s.last) rs)
    protocol port remote remote_port m
    ≡ look (apply_all s rs) protocol port remote remote_port m

-- whatever a view of the copies has seen begins what the shown one has
abbrev pub NobodyKnowsMore : Type 0
NobodyKnowsMore = (copy : Replica) (views : List (Option Reached)) → IsShown copy views
    → (i : ℕ) (r : Reached) → get_elem? views i ≡ some (Some r)
    → IsPrefix (added_in r.seen.log) (added_in copy.seen.log)
