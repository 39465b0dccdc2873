use Rattle.std.proofs.Common.{◌≤◌, suc, List, length, Some, sym, ap, ◌∙◌, subst, arith}
use Rattle.pcp_base.specs.declared.leases.PeerLease.{PeerLease}
use Rattle.pcp_base.specs.Tables.{Table, is_peer_of}
use Rattle.pcp_base.proofs.Members.{IsIn-from_Contains}
use Rattle.peer_table.specs.PeerLists.{IsOverlapped, overlaps}
use Rattle.indexed_store.specs.Looks.{most_levels}
use Rattle.indexed_store.proofs.DeadGo.{own-key, rest-then}
use Rattle.indexed_store.proofs.DropSteps.{count-fewer, count-within, less-times, peers-most}
use Rattle.indexed_store.proofs.OverlappedDead.{overlapped_peer-goes}
use Rattle.indexed_store.proofs.leases.Leases.drop_overlapped_peers.Goals as goal

pub loop-other-smaller : goal.loop-other-smaller
loop-other-smaller g c =
    let l = c.args.lease.now in let x = c.in-Some.other in
    let here : Table = record { maps = c.loop-other.self-inside.maps.found; peers = c.loop-other.self-inside.peers.found } in
    let told : IsOverlapped l here.peers (Some x) = subst (IsOverlapped l here.peers) (sym c.in-Some.ensures) c.overlapping.ensures.overlapped in
    let less = (overlapped_peer-goes c.args.m c.args.self.now.found here c.loop-other.invariant.0 c.sound_tables_have_sound_peers.ensures c.fewer_peers_are_sound.ensures
    l c.requires.after x told.among told.overlapped c.remove.new.self.found c.remove.ensures.removed.removed).fewer in
    let smaller : suc (length c.remove.new.self.found) ≤ length c.loop-other.self-inside.peers.found = omega (arith, less) in smaller

pub loop-other-preserved : goal.loop-other-preserved
loop-other-preserved g c =
    let l = c.args.lease.now in let x = c.in-Some.other in
    let here : Table = record { maps = c.loop-other.self-inside.maps.found; peers = c.loop-other.self-inside.peers.found } in
    let told : IsOverlapped l here.peers (Some x) = subst (IsOverlapped l here.peers) (sym c.in-Some.ensures) c.overlapping.ensures.overlapped in
    let rest = c.loop-other.invariant.0 in let removed = c.remove.ensures.removed.removed in
    let levels = peers-most c.levels_grow.ensures here rest.tabled in
    let has = is_peer_of x.endpoint x.remote x.remote_port in
    let fewer = count-fewer has here.peers c.remove.new.self.found removed (overlaps l) x (IsIn-from_Contains here.peers x told.among) (own-key x) told.overlapped in
    let times = less-times _ _ most_levels fewer in
    let before = c.loop-other.invariant.2 in let look = c.overlapping.ensures.steps in let gone = c.remove.ensures.steps in (
      rest-then c.args.m c.args.self.now.found here _ rest
          (overlapped_peer-goes c.args.m c.args.self.now.found here rest c.sound_tables_have_sound_peers.ensures c.fewer_peers_are_sound.ensures
          l c.requires.after x told.among told.overlapped c.remove.new.self.found removed).rest,
      λ test. (let within = count-within has here.peers c.remove.new.self.found removed test in let earlier = c.loop-other.invariant.1 test in omega (arith, within, earlier)),
      omega (arith, levels, times, before, look, gone),
      ap (λ (ls : List PeerLease). record { maps = c.loop-other.self-inside.maps.past; peers = ls }) c.remove.ensures.past ∙ c.loop-other.invariant.3,
    )

pub returns-clause-steps : goal.returns-clause-steps
returns-clause-steps g c =
    let here : Table = record { maps = c.loop-other.self-inside.maps.found; peers = c.loop-other.self-inside.peers.found } in
    let levels = peers-most c.levels_grow.ensures here c.loop-other.invariant.0.tabled in
    let before = c.loop-other.invariant.2 in let look = c.overlapping.ensures.steps in
    omega (arith, levels, before, look)
