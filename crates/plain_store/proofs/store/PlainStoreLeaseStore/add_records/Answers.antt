use Rattle.std.proofs.Common.{ℕ, List, map, sym, ap, subst}
use Rattle.std.specs.List.{AllByRecursion}
use Rattle.pcp_base.specs.declared.leases.End.{End}
use Rattle.pcp_base.specs.declared.leases.MapLease.{MapLease}
use Rattle.pcp_base.specs.declared.leases.PeerLease.{PeerLease}
use Rattle.pcp_base.specs.Reached.{IsReached}
use Rattle.pcp_base.specs.Records.{IsWellFormedRecord}
use Rattle.pcp_base.specs.Snapshots.{end_record, map_record, peer_record}
use Rattle.lease_store.specs.Stores.{Stored}
use Rattle.lease_store.proofs.HeldLemmas.{held_ends, held_maps, held_peers}
use Rattle.plain_store.proofs.store.PlainStoreLeaseStore.add_records.Goals as goal

pub add_end_records-requires : goal.add_end_records-requires
add_end_records-requires g c =
    let s = c.self.inside.replay in
    let held = held_ends s (subst IsReached (sym (ap (λ (v : Stored). v.state) c.self.view_is)) c.requires) in
    subst (λ (m : ℕ). AllByRecursion IsWellFormedRecord (map (end_record m) c.ends.result.now)) (sym c.last-m.ensures) (subst (λ (l : List End). AllByRecursion IsWellFormedRecord (map (end_record s.last) l)) (sym c.ends.ensures) held)

pub add_map_records-requires : goal.add_map_records-requires
add_map_records-requires g c =
    let s = c.self.inside.replay in
    let held = held_maps s (subst IsReached (sym (ap (λ (v : Stored). v.state) c.self.view_is)) c.requires) in
    subst (λ (m : ℕ). AllByRecursion IsWellFormedRecord (map (map_record m) c.maps.result.now)) (sym c.last-m.ensures) (subst (λ (l : List MapLease). AllByRecursion IsWellFormedRecord (map (map_record s.last) l)) (sym c.maps.ensures) held)

pub add_peer_records-requires : goal.add_peer_records-requires
add_peer_records-requires g c =
    let s = c.self.inside.replay in
    let held = held_peers s (subst IsReached (sym (ap (λ (v : Stored). v.state) c.self.view_is)) c.requires) in
    subst (λ (m : ℕ). AllByRecursion IsWellFormedRecord (map (peer_record m) c.peers.result.now)) (sym c.last-m.ensures) (subst (λ (l : List PeerLease). AllByRecursion IsWellFormedRecord (map (peer_record s.last) l)) (sym c.peers.ensures) held)
