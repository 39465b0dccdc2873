use Rattle.std.specs.Map.{values_of}
use Rattle.std.proofs.Common.{List, map, sym, ap, ◌∙◌, subst}
use Rattle.pcp_base.specs.declared.leases.MapLease.{MapLease}
use Rattle.ordered_index.specs.Orders.{place_of}
use Rattle.mapping_table.specs.Kept.{listed, filters_at, whole, HasSameFilters, AreWholeMaps}
use Rattle.mapping_table.specs.MapLists.{with_map, AreSoundMaps}
use Rattle.mapping_table.proofs.AgedMaps.{aged_came, all_stay}
use Rattle.mapping_table.proofs.Bares.{bare_put}
use Rattle.mapping_table.proofs.Rooms.{has_room, room_written, room_left, own_same, own_put}
use Rattle.mapping_table.proofs.Wholes.{whole_same, put_whole}
use Rattle.mapping_table.proofs.Views.{found_is, all_is}
use Rattle.mapping_table.proofs.table.MapTable.put.Goals as goal

pub put-requires : goal.put-requires
put-requires g c =
    let l = c.args.lease in let ls = (values_of c.self.inside.leases.entries) in
    subst (λ (x : MapLease). AreSoundMaps (with_map x ls)) (sym c.of.ensures)
    (bare_put (filters_at c.self.inside.filters) l ls c.self.invariant.whole.sound (subst (λ (v : List MapLease). AreSoundMaps (with_map l v)) (sym (found_is c.self.view_is)) c.requires))

pub write-requires : goal.write-requires
write-requires g c = has_room c.self.inside.filters c.place_of-place.result c.args.lease.filters c.make_room.new.filters c.in_ok-make_room.ensures.ok

pub invariant_of-self-in_default : goal.invariant_of-self-in_default
invariant_of-self-in_default g c =
    let l = c.args.lease in let ls = (values_of c.self.inside.leases.entries) in let old = c.self.inside.filters in let k = c.place_of-place.result in
    let writes = room_written old k l.filters c.make_room.new.filters c.in_ok-make_room.ensures.ok l.filters c.write.new.filters c.write.ensures in
    aged_came c.self.inside.leases c.put.new.self old c.write.new.filters c.self.inside.past c.self.inside.gone c.self.invariant
    (subst (λ (v : List MapLease). AreWholeMaps v c.write.new.filters) (sym (c.in_default.ensures.put.ok ∙ ap (λ (x : MapLease). with_map x ls) c.of.ensures)) (record {
      sound = bare_put (filters_at old) l ls c.self.invariant.whole.sound (subst (λ (v : List MapLease). AreSoundMaps (with_map l v)) (sym (found_is c.self.view_is)) c.requires);
      filters = own_put old ls c.self.invariant.whole.filters l k (c.place_of-place.ensures ∙ ap place_of c.first_endpoint.ensures) c.write.new.filters writes;
    })) c.put.ensures.next c.put.ensures.fresh

pub returns-in_default-clause-put : goal.returns-in_default-clause-put
returns-in_default-clause-put g c =
    let l = c.args.lease in let ls = (values_of c.self.inside.leases.entries) in let old = c.self.inside.filters in let k = c.place_of-place.result in let new = c.write.new.filters in
    let writes = room_written old k l.filters c.make_room.new.filters c.in_ok-make_room.ensures.ok l.filters new c.write.ensures in
    record {
      ok = ap (map (whole (filters_at new))) (c.in_default.ensures.put.ok ∙ ap (λ (x : MapLease). with_map x ls) c.of.ensures)
          ∙ put_whole l k (c.place_of-place.ensures ∙ ap place_of c.first_endpoint.ensures) old new writes ls c.self.invariant.whole.sound.leases c.self.invariant.whole.sound.separate
          ∙ ap (with_map l) (found_is c.self.view_is);
      err = tt;
    }

pub invariant_of-self-2 : goal.invariant_of-self-2
invariant_of-self-2 g c =
    let ls = (values_of c.self.inside.leases.entries) in let old = c.self.inside.filters in let k = c.place_of-place.result in let new = c.leave_room.new.filters in
    let same : HasSameFilters old new = room_left old k c.args.lease.filters c.make_room.new.filters c.in_ok-make_room.ensures.ok new c.leave_room.ensures (c.self.invariant.whole.filters.some k) in
    aged_came c.self.inside.leases c.put.new.self old new c.self.inside.past c.self.inside.gone c.self.invariant
    (subst (λ (v : List MapLease). AreWholeMaps v new) (sym c.in-Err.ensures.put.err) (record { sound = c.self.invariant.whole.sound; filters = own_same old ls c.self.invariant.whole.filters new same }))
    c.put.ensures.next c.put.ensures.fresh

pub returns-clause-put : goal.returns-clause-put
returns-clause-put g c =
    let ls = (values_of c.self.inside.leases.entries) in let old = c.self.inside.filters in let k = c.place_of-place.result in let new = c.leave_room.new.filters in
    let same : HasSameFilters old new = room_left old k c.args.lease.filters c.make_room.new.filters c.in_ok-make_room.ensures.ok new c.leave_room.ensures (c.self.invariant.whole.filters.some k) in
    record {
      ok = tt;
      err = ap (map (whole (filters_at new))) c.in-Err.ensures.put.err ∙ whole_same (filters_at old) (filters_at new) (λ q. ap listed (same q)) ls ∙ (found_is c.self.view_is);
    }

pub returns-clause-err : goal.returns-clause-err
returns-clause-err g c =
    let old = c.self.inside.filters in let k = c.place_of-place.result in let new = c.leave_room.new.filters in
    let same : HasSameFilters old new = room_left old k c.args.lease.filters c.make_room.new.filters c.in_ok-make_room.ensures.ok new c.leave_room.ensures (c.self.invariant.whole.filters.some k) in
    all_stay c.self.inside.leases c.put.new.self old new c.self.inside.past c.self.inside.gone c.self.invariant c.in-Err.ensures.err (λ q. ap listed (same q)) ∙ all_is c.self.view_is
