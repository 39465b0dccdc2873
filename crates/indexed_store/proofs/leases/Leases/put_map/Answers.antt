use Rattle.std.proofs.Common.{ap, ◌∙◌, sym, subst}
use Rattle.pcp_base.specs.declared.records.Change.TheVariants.{Map}
use Rattle.pcp_base.specs.Tables.{Table, live}
use Rattle.pcp_base.specs.Apply.{table_changed}
use Rattle.mapping_table.specs.MapLists.{AreSoundMaps, with_map}
use Rattle.indexed_store.specs.Holding.{IsEvenRun}
use Rattle.indexed_store.specs.Tabled.{AreTabled}
use Rattle.indexed_store.proofs.ChangeLemmas.{maps_with_one, map_tabled, map_live, map_even, seen_with_map}
use Rattle.indexed_store.proofs.Views.{found_is}
use Rattle.indexed_store.proofs.leases.Leases.put_map.Goals as goal

pub put-requires : goal.put-requires
put-requires g c =
    let l = c.args.lease.now in let t = c.make_way_for_map.new.self.found in
    subst (λ (x : Table). AreSoundMaps (with_map l x.maps)) (sym (found_is c.self.view_is))
    (maps_with_one c.args.m l t c.make_way_for_map.ensures.way c.maps_are_sound_with_one_more.ensures c.requires.lease)

pub returns-clause-tabled : goal.returns-clause-tabled
returns-clause-tabled g c =
    let l = c.args.lease.now in let t = c.make_way_for_map.new.self.found in
    subst AreTabled (sym (seen_with_map l t _ _ (found_is c.self.view_is) c.in_ok-put.ensures.put.ok))
    (map_tabled c.args.m l t c.make_way_for_map.ensures.way c.maps_are_sound_with_one_more.ensures c.requires.lease)

pub returns-clause-table : goal.returns-clause-table
returns-clause-table g c =
    let m = c.args.m in let l = c.args.lease.now in let t = c.make_way_for_map.new.self.found in
    ap (λ (x : Table). live x m) (seen_with_map l t _ _ (found_is c.self.view_is) c.in_ok-put.ensures.put.ok)
    ∙ map_live m l t c.make_way_for_map.ensures.way c.requires.later
    ∙ ap (table_changed (Map l)) c.make_way_for_map.ensures.live

pub returns-clause-formed : goal.returns-clause-formed
returns-clause-formed g c =
    let l = c.args.lease.now in let t = c.make_way_for_map.new.self.found in let r = c.run_of_map in
    subst (λ (x : Table). IsEvenRun x.maps r.result) (sym (seen_with_map l t _ _ (found_is c.self.view_is) c.in_ok-put.ensures.put.ok))
    (map_even c.args.m l t c.make_way_for_map.ensures.way c.maps_are_sound_with_one_more.ensures c.requires.lease
    r.result r.ensures.value r.ensures.formed)
