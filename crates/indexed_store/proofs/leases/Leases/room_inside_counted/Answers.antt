use Rattle.std.proofs.Common.{◌≡◌, ℕ, List, ◌+◌, ◌-◌, ◌≤◌, length, filter, Option, Some, None, ap, sym, subst, ◌∙◌, arith}
use Rattle.pcp_base.specs.declared.leases.MapLease.{MapLease}
use Rattle.pcp_base.specs.declared.leases.PeerLease.{PeerLease}
use Rattle.pcp_base.specs.Tables.{Table, live}
use Rattle.ordered_index.specs.Lesser.{lesser}
use Rattle.lease_store.specs.Lookups.{next_inside, up_to_next}
use Rattle.mapping_table.specs.MapLists.{is_live_map, IsNextCovered}
use Rattle.peer_table.specs.PeerLists.{is_live_peer, IsNextNamed}
use Rattle.indexed_store.proofs.InsideLemmas.{room-known, room-one, up_to}
use Rattle.step_count.specs.Levels.{levels}
use Rattle.pcp_base.specs.declared.leases.TheConstants.{MOST_LEASES}
use Rattle.indexed_store.specs.Tabled.{AreTabled}
use Rattle.indexed_store.proofs.LevelLemmas.{maps-levels, peers-levels}
use Rattle.indexed_store.proofs.InsideSteps.{taken-is}
use Rattle.indexed_store.proofs.Views.{found_is}
use Rattle.indexed_store.proofs.leases.Leases.room_inside_counted.Goals as goal

abbrev seen : List MapLease → List PeerLease → Table
seen maps peers = record { maps = maps; peers = peers }

pub returns-then-most-eq1-clause-room : goal.returns-then-most-eq1-clause-room
returns-then-most-eq1-clause-room g c =
    let e = c.args.endpoint.now in let within = c.requires.within in let one = c.if-most-eq1.true in
    room-one c.args.self.now.found c.args.m e (omega (arith, within, one))
    ∙ ap (λ n. up_to_next (next_inside c.args.self.now.found c.args.m e) e.port n) (sym one)

pub returns-in_default-clause-room : goal.returns-in_default-clause-room
returns-in_default-clause-room g c =
    let e = c.args.endpoint.now in let m = c.args.m in let t = c.args.self.now.found in
    let end = ap (λ (n : ℕ). n + c.args.most) c.from.ensures in
    let maps = subst (λ (n : ℕ). IsNextCovered e n (live t m).maps c.next_internal-mapped.result) end
    (subst (λ (x : Table). IsNextCovered e (c.from.result + c.args.most) (filter (is_live_map m) x.maps) c.next_internal-mapped.result) (found_is c.self.view_is) c.next_internal-mapped.ensures.next) in
    let peers = subst (λ (n : ℕ). IsNextNamed e n (live t m).peers c.next_internal-named.result) end
    (subst (λ (x : Table). IsNextNamed e (c.from.result + c.args.most) (filter (is_live_peer m) x.peers) c.next_internal-named.result) (found_is c.self.view_is) c.next_internal-named.ensures.next) in
    ap (up_to e.port c.args.most) (sym (sym c.lesser.ensures ∙ c.in_default.is))
    ∙ room-known t m e c.args.most c.requires.within c.requires.some c.next_internal-mapped.result c.next_internal-named.result maps peers

pub returns-in_default-clause-steps : goal.returns-in_default-clause-steps
returns-in_default-clause-steps g c =
    let maps = maps-levels c.levels_grow.ensures (seen c.self.inside.maps.found c.self.inside.peers.found) (subst AreTabled (sym (found_is c.self.view_is)) c.requires.tabled) in
    let peers = peers-levels c.levels_grow.ensures (seen c.self.inside.maps.found c.self.inside.peers.found) (subst AreTabled (sym (found_is c.self.view_is)) c.requires.tabled) in
    taken-is c.from.result c.args.endpoint.now.port c.args.most c.from.ensures c.args.steps.now c.next_internal-mapped.new.steps c.next_internal-named.new.steps
    (levels (length c.self.inside.maps.found)) (levels (length c.self.inside.peers.found)) c.next_internal-mapped.ensures.steps c.next_internal-named.ensures.steps
    (levels MOST_LEASES) c.requires.some maps peers

pub returns-clause-room : goal.returns-clause-room
returns-clause-room g c =
    let e = c.args.endpoint.now in let m = c.args.m in let t = c.args.self.now.found in
    let end = ap (λ (n : ℕ). n + c.args.most) c.from.ensures in
    let maps = subst (λ (n : ℕ). IsNextCovered e n (live t m).maps c.next_internal-mapped.result) end
    (subst (λ (x : Table). IsNextCovered e (c.from.result + c.args.most) (filter (is_live_map m) x.maps) c.next_internal-mapped.result) (found_is c.self.view_is) c.next_internal-mapped.ensures.next) in
    let peers = subst (λ (n : ℕ). IsNextNamed e n (live t m).peers c.next_internal-named.result) end
    (subst (λ (x : Table). IsNextNamed e (c.from.result + c.args.most) (filter (is_live_peer m) x.peers) c.next_internal-named.result) (found_is c.self.view_is) c.next_internal-named.ensures.next) in
    c.from-2.ensures
    ∙ ap (up_to e.port c.args.most) (sym (sym c.lesser.ensures ∙ c.in-Some.is))
    ∙ room-known t m e c.args.most c.requires.within c.requires.some c.next_internal-mapped.result c.next_internal-named.result maps peers

pub returns-clause-steps : goal.returns-clause-steps
returns-clause-steps g c =
    let maps = maps-levels c.levels_grow.ensures (seen c.self.inside.maps.found c.self.inside.peers.found) (subst AreTabled (sym (found_is c.self.view_is)) c.requires.tabled) in
    let peers = peers-levels c.levels_grow.ensures (seen c.self.inside.maps.found c.self.inside.peers.found) (subst AreTabled (sym (found_is c.self.view_is)) c.requires.tabled) in
    taken-is c.from.result c.args.endpoint.now.port c.args.most c.from.ensures c.args.steps.now c.next_internal-mapped.new.steps c.next_internal-named.new.steps
    (levels (length c.self.inside.maps.found)) (levels (length c.self.inside.peers.found)) c.next_internal-mapped.ensures.steps c.next_internal-named.ensures.steps
    (levels MOST_LEASES) c.requires.some maps peers
