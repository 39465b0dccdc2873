use Rattle.std.proofs.Common.{◌≤◌, suc, List, length, sym, ap, ◌∙◌, arith}
use Rattle.pcp_base.specs.declared.leases.MapLease.{MapLease}
use Rattle.mapping_table.specs.MapLists.{overlaps}
use Rattle.pcp_base.specs.Tables.{Table, is_map_of}
use Rattle.indexed_store.specs.Looks.{most_levels}
use Rattle.indexed_store.proofs.DeadGo.{rest-then}
use Rattle.indexed_store.proofs.DropSteps.{count-any, less-times, maps-most}
use Rattle.indexed_store.proofs.OverlappedDead.{map-clear, overlapped_map-goes}
use Rattle.indexed_store.proofs.leases.Leases.drop_overlapped_maps.Goals as goal

pub returns-then-not-has_ended_map-clause-apart : goal.returns-then-not-has_ended_map-clause-apart
returns-then-not-has_ended_map-clause-apart g c =
    map-clear c.sound_tables_have_sound_maps.ensures c.args.m c.args.self.now.found c.args.lease.now c.requires.after
    (sym c.has_ended_map.ensures.ended ∙ c.if-not-has_ended_map.true)

pub loop-key-smaller : goal.loop-key-smaller
loop-key-smaller g c =
    let here : Table = record { maps = c.loop-key.self-inside.maps.found; peers = c.loop-key.self-inside.peers.found } in
    let less = (overlapped_map-goes c.args.m c.args.self.now.found here c.loop-key.invariant.0 c.sound_tables_have_sound_maps.ensures c.fewer_maps_are_sound.ensures
    c.args.lease.now c.requires.after c.in-Some.key c.in-Some.ensures.overlapped.among c.remove.new.self.found c.remove.ensures.removed.removed).fewer in
    let smaller : suc (length c.remove.new.self.found) ≤ length c.loop-key.self-inside.maps.found = omega (arith, less) in smaller

pub loop-key-preserved : goal.loop-key-preserved
loop-key-preserved g c =
    let here : Table = record { maps = c.loop-key.self-inside.maps.found; peers = c.loop-key.self-inside.peers.found } in
    let rest = c.loop-key.invariant.0 in
    let levels = maps-most c.levels_grow.ensures here rest.tabled in
    let fewer = count-any (is_map_of c.in-Some.key) here.maps c.remove.new.self.found c.remove.ensures.removed.removed (overlaps c.args.lease.now) c.in-Some.ensures.overlapped.among in
    let times = less-times _ _ most_levels fewer in
    let before = c.loop-key.invariant.2 in let look = c.in-Some.ensures.steps in let gone = c.remove.ensures.steps in (
      rest-then c.args.m c.args.self.now.found here _ rest
          (overlapped_map-goes c.args.m c.args.self.now.found here rest c.sound_tables_have_sound_maps.ensures c.fewer_maps_are_sound.ensures
          c.args.lease.now c.requires.after c.in-Some.key c.in-Some.ensures.overlapped.among c.remove.new.self.found c.remove.ensures.removed.removed).rest,
      c.loop-key.invariant.1,
      omega (arith, levels, times, before, look, gone),
      ap (λ (ls : List MapLease). record { maps = ls; peers = c.loop-key.self-inside.peers.past }) c.remove.ensures.past ∙ c.loop-key.invariant.3,
    )

pub returns-clause-steps : goal.returns-clause-steps
returns-clause-steps g c =
    let here : Table = record { maps = c.loop-key.self-inside.maps.found; peers = c.loop-key.self-inside.peers.found } in
    let levels = maps-most c.levels_grow.ensures here c.loop-key.invariant.0.tabled in
    let before = c.loop-key.invariant.2 in let look = c.overlapping.ensures.steps in
    omega (arith, levels, before, look)
