use Rattle.std.proofs.Common.{rules, ℕ, List, ◌<◌, filter, subst, ◌∙◌}
use Rattle.pcp_base.specs.Tables.{Table, live}
use Rattle.mapping_table.specs.MapLists.{is_live_map, IsNextCovered}
use Rattle.peer_table.specs.PeerLists.{is_live_peer, IsNextNamed}
use Rattle.indexed_store.proofs.InsideLemmas.{next-known, next-last}
use Rattle.indexed_store.proofs.Views.{found_is}
use Rattle.indexed_store.proofs.leases.Leases.next_inside_counted.Goals as goal

pub returns-then-endpoint : goal.returns-then-endpoint
returns-then-endpoint g c = next-last c.args.self.now.found c.args.m c.args.endpoint.now c.if-endpoint.true

pub returns : goal.returns
returns g c =
    let e = c.args.endpoint.now in let m = c.args.m in
    let within : e.port < 65536 = search rules in
    let maps = subst (λ (x : Table). IsNextCovered e 65536 (filter (is_live_map m) x.maps) c.next_internal-mapped.result) (found_is c.self.view_is) c.next_internal-mapped.ensures.next in
    let peers = subst (λ (x : Table). IsNextNamed e 65536 (filter (is_live_peer m) x.peers) c.next_internal-named.result) (found_is c.self.view_is) c.next_internal-named.ensures.next in
    c.lesser.ensures
    ∙ next-known c.args.self.now.found m e within c.next_internal-mapped.result c.next_internal-named.result maps peers
