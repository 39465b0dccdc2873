use Rattle.std.proofs.Common.{Some, None, sym, ap, ◌∙◌, subst, arith}
use Rattle.pcp_base.specs.declared.leases.Endpoint.{Endpoint}
use Rattle.pcp_base.specs.Tables.{Table, is_map_of}
use Rattle.pcp_base.proofs.Members.{IsIn-from_Contains}
use Rattle.pcp_base.proofs.TableLemmas.{key-own}
use Rattle.peer_table.specs.PeerLists.{IsDeadPeer}
use Rattle.indexed_store.specs.Tabled.{AreTabled}
use Rattle.indexed_store.proofs.DeadGo.{none-dead, map-goes, peer-goes}
use Rattle.indexed_store.proofs.DropSteps.{maps-most, peers-most}
use Rattle.indexed_store.proofs.Views.{found_is}
use Rattle.indexed_store.proofs.leases.Leases.drop_one.Goals as goal

-- ---- a MAP lease goes

pub returns-in-Some-clause-tabled : goal.returns-in-Some-clause-tabled
returns-in-Some-clause-tabled g c =
    let l = c.in-Some.lease in
    let before : Table = record { maps = c.self.inside.maps.found; peers = c.self.inside.peers.found } in
    let has = ap (λ (e : Endpoint). is_map_of e l) c.first_endpoint.ensures ∙ key-own l in
    (map-goes c.args.m before c.args.self.now.found (found_is c.self.view_is) c.requires c.fewer_maps_are_sound.ensures l c.first_endpoint.result
    (IsIn-from_Contains before.maps l c.in-Some.ensures.ended.among) c.in-Some.ensures.ended.dead has c.remove.new.self.found c.remove.ensures.removed.removed).rest.tabled

pub returns-in-Some-clause-live : goal.returns-in-Some-clause-live
returns-in-Some-clause-live g c =
    let l = c.in-Some.lease in
    let before : Table = record { maps = c.self.inside.maps.found; peers = c.self.inside.peers.found } in
    let has = ap (λ (e : Endpoint). is_map_of e l) c.first_endpoint.ensures ∙ key-own l in
    (map-goes c.args.m before c.args.self.now.found (found_is c.self.view_is) c.requires c.fewer_maps_are_sound.ensures l c.first_endpoint.result
    (IsIn-from_Contains before.maps l c.in-Some.ensures.ended.among) c.in-Some.ensures.ended.dead has c.remove.new.self.found c.remove.ensures.removed.removed).rest.same

pub returns-in-Some-clause-fewer : goal.returns-in-Some-clause-fewer
returns-in-Some-clause-fewer g c =
    let l = c.in-Some.lease in
    let before : Table = record { maps = c.self.inside.maps.found; peers = c.self.inside.peers.found } in
    let has = ap (λ (e : Endpoint). is_map_of e l) c.first_endpoint.ensures ∙ key-own l in
    (map-goes c.args.m before c.args.self.now.found (found_is c.self.view_is) c.requires c.fewer_maps_are_sound.ensures l c.first_endpoint.result
    (IsIn-from_Contains before.maps l c.in-Some.ensures.ended.among) c.in-Some.ensures.ended.dead has c.remove.new.self.found c.remove.ensures.removed.removed).fewer

pub returns-in-Some-clause-maps_from : goal.returns-in-Some-clause-maps_from
returns-in-Some-clause-maps_from g c =
    let l = c.in-Some.lease in
    let before : Table = record { maps = c.self.inside.maps.found; peers = c.self.inside.peers.found } in
    let has = ap (λ (e : Endpoint). is_map_of e l) c.first_endpoint.ensures ∙ key-own l in
    (map-goes c.args.m before c.args.self.now.found (found_is c.self.view_is) c.requires c.fewer_maps_are_sound.ensures l c.first_endpoint.result
    (IsIn-from_Contains before.maps l c.in-Some.ensures.ended.among) c.in-Some.ensures.ended.dead has c.remove.new.self.found c.remove.ensures.removed.removed).rest.maps_from

-- ---- none has ended

pub returns-in_default-copied-clause-all : goal.returns-in_default-copied-clause-all
returns-in_default-copied-clause-all g c =
    let m = c.args.m in let peers = c.self.inside.peers.found in
    let before : Table = record { maps = c.self.inside.maps.found; peers = peers } in
    let dead : IsDeadPeer m peers None = subst (IsDeadPeer m peers) (sym c.in_default-copied.ensures) c.one_ended-2.ensures.ended in
    none-dead m before c.args.self.now.found (found_is c.self.view_is) c.requires c.in_default.ensures.ended.none dead.none

-- ---- a PEER lease goes

pub returns-clause-tabled : goal.returns-clause-tabled
returns-clause-tabled g c =
    let m = c.args.m in let l = c.in-Some-copied.lease in let peers = c.self.inside.peers.found in
    let before : Table = record { maps = c.self.inside.maps.found; peers = peers } in
    let dead : IsDeadPeer m peers (Some l) = subst (IsDeadPeer m peers) (sym c.in-Some-copied.ensures) c.one_ended-2.ensures.ended in
    (peer-goes m before c.args.self.now.found (found_is c.self.view_is) c.requires c.fewer_peers_are_sound.ensures l
    (IsIn-from_Contains peers l dead.among) dead.dead c.remove-2.new.self.found c.remove-2.ensures.removed.removed).rest.tabled

pub returns-clause-live : goal.returns-clause-live
returns-clause-live g c =
    let m = c.args.m in let l = c.in-Some-copied.lease in let peers = c.self.inside.peers.found in
    let before : Table = record { maps = c.self.inside.maps.found; peers = peers } in
    let dead : IsDeadPeer m peers (Some l) = subst (IsDeadPeer m peers) (sym c.in-Some-copied.ensures) c.one_ended-2.ensures.ended in
    (peer-goes m before c.args.self.now.found (found_is c.self.view_is) c.requires c.fewer_peers_are_sound.ensures l
    (IsIn-from_Contains peers l dead.among) dead.dead c.remove-2.new.self.found c.remove-2.ensures.removed.removed).rest.same

pub returns-clause-fewer : goal.returns-clause-fewer
returns-clause-fewer g c =
    let m = c.args.m in let l = c.in-Some-copied.lease in let peers = c.self.inside.peers.found in
    let before : Table = record { maps = c.self.inside.maps.found; peers = peers } in
    let dead : IsDeadPeer m peers (Some l) = subst (IsDeadPeer m peers) (sym c.in-Some-copied.ensures) c.one_ended-2.ensures.ended in
    (peer-goes m before c.args.self.now.found (found_is c.self.view_is) c.requires c.fewer_peers_are_sound.ensures l
    (IsIn-from_Contains peers l dead.among) dead.dead c.remove-2.new.self.found c.remove-2.ensures.removed.removed).fewer

pub returns-clause-peers_from : goal.returns-clause-peers_from
returns-clause-peers_from g c =
    let m = c.args.m in let l = c.in-Some-copied.lease in let peers = c.self.inside.peers.found in
    let before : Table = record { maps = c.self.inside.maps.found; peers = peers } in
    let dead : IsDeadPeer m peers (Some l) = subst (IsDeadPeer m peers) (sym c.in-Some-copied.ensures) c.one_ended-2.ensures.ended in
    (peer-goes m before c.args.self.now.found (found_is c.self.view_is) c.requires c.fewer_peers_are_sound.ensures l
    (IsIn-from_Contains peers l dead.among) dead.dead c.remove-2.new.self.found c.remove-2.ensures.removed.removed).rest.peers_from

-- ---- what it takes

pub returns-in-Some-clause-steps : goal.returns-in-Some-clause-steps
returns-in-Some-clause-steps g c =
    let before : Table = record { maps = c.self.inside.maps.found; peers = c.self.inside.peers.found } in
    let levels = maps-most c.levels_grow.ensures before (subst AreTabled (sym (found_is c.self.view_is)) c.requires) in
    let look = c.in-Some.ensures.steps in let gone = c.remove.ensures.steps in
    omega (arith, levels, look, gone)

pub returns-in_default-copied-clause-steps : goal.returns-in_default-copied-clause-steps
returns-in_default-copied-clause-steps g c =
    let before : Table = record { maps = c.self.inside.maps.found; peers = c.self.inside.peers.found } in
    let tabled = subst AreTabled (sym (found_is c.self.view_is)) c.requires in
    let maps = maps-most c.levels_grow.ensures before tabled in let peers = peers-most c.levels_grow.ensures before tabled in
    let first = c.in_default.ensures.steps in let second = c.one_ended-2.ensures.steps in
    omega (arith, maps, peers, first, second)

pub returns-clause-steps : goal.returns-clause-steps
returns-clause-steps g c =
    let before : Table = record { maps = c.self.inside.maps.found; peers = c.self.inside.peers.found } in
    let tabled = subst AreTabled (sym (found_is c.self.view_is)) c.requires in
    let maps = maps-most c.levels_grow.ensures before tabled in let peers = peers-most c.levels_grow.ensures before tabled in
    let first = c.in_default.ensures.steps in let second = c.one_ended-2.ensures.steps in let gone = c.remove-2.ensures.steps in
    omega (arith, maps, peers, first, second, gone)
