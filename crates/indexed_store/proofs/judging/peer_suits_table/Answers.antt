use Rattle.std.proofs.Common.{◌≡◌, ◌+◌, ◌-◌, ◌&&◌, length, nat_lt, Bool, count_by, find, refl, ap, ◌∙◌}
use Rattle.std.specs.Option.{option_map}
use Rattle.pcp_base.specs.declared.leases.TheConstants.{MOST_LEASES, MOST_PEERS}
use Rattle.pcp_base.specs.declared.leases.PeerLease.{PeerLease}
use Rattle.pcp_base.specs.declared.leases.Owner.{Owner}
use Rattle.pcp_base.specs.Tables.{Table, covers, is_peer_of, live, names}
use Rattle.pcp_base.specs.Owners.{peer_owner}
use Rattle.pcp_base.specs.Rooms.{HasRoomForPeer}
use Rattle.lease_store.specs.Lookups.{peering, lease_count}
use Rattle.indexed_store.specs.Judging.{is_at_most, peer_has_room, unheld_by}
use Rattle.indexed_store.specs.Tabled.{TabledState}
use Rattle.indexed_store.proofs.JudgeLemmas.{told-neither, told-some, peer-room}
use Rattle.indexed_store.proofs.StateLooks.{leases_of, looked_in, reached-later}
use Rattle.indexed_store.proofs.judging.peer_suits_table.Goals as goal

pub returns-in_default : goal.returns-in_default
returns-in_default c =
    let s = c.args.state.now.state in let v = c.args.state.now.ports in let m = c.args.m in let l = c.args.lease.now in
    let test : Bool = nat_lt (lease_count s.table m) MOST_LEASES && peer_has_room s.table m v (peer_owner l) in
    told-neither (λ (old : PeerLease). l ≡ record old { expiry = l.expiry }) (HasRoomForPeer (live s.table m) l) c.has_room_for_peer.result test
    (c.has_room_for_peer.ensures ∙ ap (λ (o : Owner). nat_lt (lease_count c.state.inside.leases.found m) MOST_LEASES && peer_has_room c.state.inside.leases.found m c.state.inside.ports o) c.owner_of_peer.ensures
    ∙ looked_in (λ (u : Table). nat_lt (length u.maps + length u.peers) MOST_LEASES
    && (((nat_lt (count_by (λ x. names x l.endpoint) u.peers) MOST_PEERS
    && is_at_most (option_map (λ x. x.external + (l.endpoint.port - x.internal)) (find (λ x. covers x l.endpoint) u.maps)) l.external)
    && is_at_most (option_map (λ x. x.external) (find (λ x. names x l.endpoint) u.peers)) l.external) && unheld_by m c.state.inside.ports (peer_owner l))) c.args.state.now m c.state.inside.leases.found (leases_of c.state.view_is) c.requires.kept (reached-later _ _ c.requires)
    ∙ ap (λ (x : TabledState). nat_lt (lease_count s.table m) MOST_LEASES && peer_has_room s.table m x.ports (peer_owner l)) c.state.view_is) (peering s.table m l.endpoint l.remote l.remote_port)
    (c.in_default.ensures ∙ looked_in (λ t. find (is_peer_of l.endpoint l.remote l.remote_port) t.peers) c.args.state.now m c.state.inside.leases.found (leases_of c.state.view_is) c.requires.kept (reached-later _ _ c.requires)) (peer-room c.args.state.now m c.requires l)

pub returns : goal.returns
returns c =
    let s = c.args.state.now.state in let m = c.args.m in let l = c.args.lease.now in
    told-some (λ (old : PeerLease). l ≡ record old { expiry = l.expiry }) (HasRoomForPeer (live s.table m) l) c.is_renewed_peer.result c.is_renewed_peer.result refl
    (peering s.table m l.endpoint l.remote l.remote_port) c.in-Some.held
    (c.in-Some.ensures ∙ looked_in (λ t. find (is_peer_of l.endpoint l.remote l.remote_port) t.peers) c.args.state.now m c.state.inside.leases.found (leases_of c.state.view_is) c.requires.kept (reached-later _ _ c.requires))
    c.is_renewed_peer.ensures
