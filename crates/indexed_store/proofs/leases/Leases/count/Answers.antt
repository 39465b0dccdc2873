use Rattle.std.proofs.Common.{◌≡◌, ℕ, List, ◌+◌, length, sym, ap, ◌∙◌, arith}
use Rattle.std.proofs.lemmas.List.Sums.{length-filter}
use Rattle.pcp_base.specs.declared.leases.MapLease.{MapLease}
use Rattle.pcp_base.specs.declared.leases.PeerLease.{PeerLease}
use Rattle.pcp_base.specs.Tables.{Table, live}
use Rattle.mapping_table.specs.MapLists.{is_live_map}
use Rattle.peer_table.specs.PeerLists.{is_live_peer}
use Rattle.indexed_store.proofs.Views.{all_is}
use Rattle.indexed_store.proofs.leases.Leases.count.Goals as goal

abbrev seen : List MapLease → List PeerLease → Table
seen maps peers = record { maps = maps; peers = peers }

pub returns : goal.returns
returns c =
    let m = c.args.m in
    let maps : c.live.result ≡ length (live (seen c.self.inside.maps.all c.self.inside.peers.all) m).maps = c.live.ensures ∙ sym (length-filter (is_live_map m) c.self.inside.maps.all) in
    let peers : c.live-2.result ≡ length (live (seen c.self.inside.maps.all c.self.inside.peers.all) m).peers = c.live-2.ensures.live ∙ sym (length-filter (is_live_peer m) c.self.inside.peers.all) in
    let both : c.live.result + c.live-2.result ≡ length (live (seen c.self.inside.maps.all c.self.inside.peers.all) m).maps + length (live (seen c.self.inside.maps.all c.self.inside.peers.all) m).peers = omega (arith, maps, peers) in
    both ∙ ap (λ (t : Table). length (live t m).maps + length (live t m).peers) (all_is c.self.view_is)
