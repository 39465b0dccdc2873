use Rattle.std.proofs.Common.{map, sym, ap, subst}
use Rattle.std.specs.List.{AllByRecursion}
use Rattle.pcp_base.specs.Reached.{IsReached}
use Rattle.pcp_base.specs.Records.{IsWellFormedRecord}
use Rattle.pcp_base.specs.Snapshots.{end_record, map_record, peer_record}
use Rattle.pcp_base.specs.Tables.{live}
use Rattle.leased_ports.specs.Listed.{ends_come}
use Rattle.lease_store.proofs.HeldLemmas.{held_ends, held_maps, held_peers}
use Rattle.indexed_store.specs.declared.state.IndexedState.TheInside.{Inside}
use Rattle.indexed_store.specs.Tabled.{TabledState, state_in}
use Rattle.indexed_store.proofs.state.IndexedState.add_records.Goals as goal

pub add_end_records-requires : goal.add_end_records-requires
add_end_records-requires g c =
    let a = c.self.inside in
    let held = held_ends (state_in a.leases.all a.ports a.base a.address a.last a.started) (subst IsReached (sym (ap (λ (v : TabledState). v.state) c.self.view_is)) c.requires) in
    subst (λ (x : Inside). AllByRecursion IsWellFormedRecord (map (end_record x.last) (ends_come x.last x.ports))) (sym c.self-inside.view_is) held

pub add_records-requires : goal.add_records-requires
add_records-requires g c =
    let a = c.self.inside in
    let held = held_maps (state_in a.leases.all a.ports a.base a.address a.last a.started) (subst IsReached (sym (ap (λ (v : TabledState). v.state) c.self.view_is)) c.requires) in
    subst (λ (x : Inside). AllByRecursion IsWellFormedRecord (map (map_record x.last) (live x.leases.all x.last).maps)) (sym c.self-inside.view_is) held

pub add_records-requires-2 : goal.add_records-requires-2
add_records-requires-2 g c =
    let a = c.self.inside in
    let held = held_peers (state_in a.leases.all a.ports a.base a.address a.last a.started) (subst IsReached (sym (ap (λ (v : TabledState). v.state) c.self.view_is)) c.requires) in
    subst (λ (x : Inside). AllByRecursion IsWellFormedRecord (map (peer_record x.last) (live x.leases.all x.last).peers)) (sym c.self-inside.view_is) held
