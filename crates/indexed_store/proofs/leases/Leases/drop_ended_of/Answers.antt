use Rattle.std.proofs.Common.{◌≤◌, suc, nat_lt, not, length, Some, None, List, refl, sym, ap, ◌∙◌, subst, arith}
use Rattle.std.proofs.lemmas.Bool.{and_from}
use Rattle.pcp_base.specs.declared.leases.PeerLease.{PeerLease}
use Rattle.pcp_base.specs.Tables.{Table, is_peer_of, names}
use Rattle.pcp_base.proofs.Members.{IsIn-from_Contains}
use Rattle.peer_table.specs.PeerLists.{IsEndedOf, is_ended_of}
use Rattle.indexed_store.specs.Looks.{most_levels}
use Rattle.indexed_store.proofs.DeadGo.{own-key, peer-goes, rest-then}
use Rattle.indexed_store.proofs.DropSteps.{count-fewer, less-times, peers-most}
use Rattle.indexed_store.proofs.WayLemmas.{count-kept}
use Rattle.indexed_store.proofs.leases.Leases.drop_ended_of.Goals as goal

pub loop-other-smaller : goal.loop-other-smaller
loop-other-smaller g c =
    let e = c.args.endpoint.now in let m = c.args.m in let x = c.in-Some.other in
    let here : Table = record { maps = c.loop-other.self-inside.maps.found; peers = c.loop-other.self-inside.peers.found } in
    let ended : IsEndedOf e m here.peers (Some x) = subst (IsEndedOf e m here.peers) (sym c.in-Some.ensures) c.ended_of.ensures.ended in
    let less = (peer-goes m here here refl c.loop-other.invariant.0.tabled c.fewer_peers_are_sound.ensures
    x (IsIn-from_Contains here.peers x ended.among) ended.dead c.remove.new.self.found c.remove.ensures.removed.removed).fewer in
    let smaller : suc (length c.remove.new.self.found) ≤ length c.loop-other.self-inside.peers.found = omega (arith, less) in smaller

pub loop-other-preserved : goal.loop-other-preserved
loop-other-preserved g c =
    let e = c.args.endpoint.now in let m = c.args.m in let x = c.in-Some.other in
    let here : Table = record { maps = c.loop-other.self-inside.maps.found; peers = c.loop-other.self-inside.peers.found } in
    let ended : IsEndedOf e m here.peers (Some x) = subst (IsEndedOf e m here.peers) (sym c.in-Some.ensures) c.ended_of.ensures.ended in
    let rest = c.loop-other.invariant.0 in let removed = c.remove.ensures.removed.removed in let among = IsIn-from_Contains here.peers x ended.among in
    let levels = peers-most c.levels_grow.ensures here rest.tabled in
    let fewer = count-fewer (is_peer_of x.endpoint x.remote x.remote_port) here.peers c.remove.new.self.found removed (is_ended_of e m) x among (own-key x) (and_from _ _ ended.names (ap not ended.dead)) in
    let times = less-times _ _ most_levels fewer in
    let before = c.loop-other.invariant.1 in let look = c.ended_of.ensures.steps in let gone = c.remove.ensures.steps in (
      rest-then m c.args.self.now.found here _ rest (peer-goes m here here refl rest.tabled c.fewer_peers_are_sound.ensures x among ended.dead c.remove.new.self.found removed).rest,
      omega (arith, levels, times, before, look, gone),
      ap (λ (ls : List PeerLease). record { maps = c.loop-other.self-inside.maps.past; peers = ls }) c.remove.ensures.past ∙ c.loop-other.invariant.2,
    )

pub returns-clause-of_endpoint : goal.returns-clause-of_endpoint
returns-clause-of_endpoint g c =
    let e = c.args.endpoint.now in let m = c.args.m in let peers = c.loop-other.self-inside.peers.found in
    let ended : IsEndedOf e m peers None = subst (IsEndedOf e m peers) (sym c.in_default.ensures) c.ended_of.ensures.ended in
    count-kept (λ (l : PeerLease). names l e) (λ (l : PeerLease). nat_lt m l.expiry) peers ended.none

pub returns-clause-steps : goal.returns-clause-steps
returns-clause-steps g c =
    let here : Table = record { maps = c.loop-other.self-inside.maps.found; peers = c.loop-other.self-inside.peers.found } in
    let levels = peers-most c.levels_grow.ensures here c.loop-other.invariant.0.tabled in
    let before = c.loop-other.invariant.1 in let look = c.ended_of.ensures.steps in
    omega (arith, levels, before, look)
