use Rattle.std.proofs.Common.{◌≡◌, ◌∙◌, Bool, nat_lt, filter, length, ap, arith}
use Rattle.std.proofs.lemmas.List.Sums.{length-filter, count_by-le-length}
use Rattle.pcp_base.specs.declared.leases.MapLease.{MapLease}
use Rattle.pcp_base.specs.declared.leases.PeerLease.{PeerLease}
use Rattle.plain_store.proofs.lookups.lease_count.Goals as goal

pub overflow_cast-result : goal.overflow_cast-result
overflow_cast-result c =
    let alive : MapLease → Bool = λ l. nat_lt c.args.m l.expiry in
    let t = c.args.replay.now.table in
    let maps : c.live_maps.result ≡ length (filter alive t.maps) = c.live_maps.ensures ∙ ap (λ xs. length (filter alive xs)) c.maps.ensures in
    omega (arith, maps, length-filter alive t.maps, count_by-le-length alive t.maps, c.requires.sound.table.few)

pub overflow_cast-result-2 : goal.overflow_cast-result-2
overflow_cast-result-2 c =
    let alive : PeerLease → Bool = λ l. nat_lt c.args.m l.expiry in
    let t = c.args.replay.now.table in
    let peers : c.live_peers.result ≡ length (filter alive t.peers) = c.live_peers.ensures ∙ ap (λ xs. length (filter alive xs)) c.peers.ensures in
    omega (arith, peers, length-filter alive t.peers, count_by-le-length alive t.peers, c.requires.sound.table.few)

pub overflow_add-result : goal.overflow_add-result
overflow_add-result c =
    let alive_map : MapLease → Bool = λ l. nat_lt c.args.m l.expiry in
    let alive_peer : PeerLease → Bool = λ l. nat_lt c.args.m l.expiry in
    let t = c.args.replay.now.table in
    let maps : c.live_maps.result ≡ length (filter alive_map t.maps) = c.live_maps.ensures ∙ ap (λ xs. length (filter alive_map xs)) c.maps.ensures in
    let peers : c.live_peers.result ≡ length (filter alive_peer t.peers) = c.live_peers.ensures ∙ ap (λ xs. length (filter alive_peer xs)) c.peers.ensures in
    omega (arith, maps, peers, length-filter alive_map t.maps, count_by-le-length alive_map t.maps, length-filter alive_peer t.peers, count_by-le-length alive_peer t.peers, c.requires.sound.table.few)
