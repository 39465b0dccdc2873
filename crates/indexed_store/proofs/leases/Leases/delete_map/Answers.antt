use Rattle.std.proofs.Common.{◌≡◌, Option, Some, find, ap, ◌∙◌, sym, subst}
use Rattle.std.specs.Option.{option_map}
use Rattle.pcp_base.specs.declared.leases.Endpoint.{Endpoint}
use Rattle.pcp_base.specs.declared.leases.MapLease.{MapLease}
use Rattle.pcp_base.specs.Tables.{Table, IsMapLease, is_map_of, live}
use Rattle.pcp_base.proofs.Members.{find-some, All-IsIn}
use Rattle.mapping_table.specs.MapLists.{map_with_key}
use Rattle.indexed_store.specs.Runs.{map_run}
use Rattle.indexed_store.specs.Holding.{IsEvenRun}
use Rattle.indexed_store.specs.Tabled.{AreTabled}
use Rattle.indexed_store.proofs.ChangeLemmas.{gone_tabled, gone_live, gone_is, gone_even, seen_without_map}
use Rattle.indexed_store.proofs.Views.{found_is}
use Rattle.indexed_store.proofs.leases.Leases.delete_map.Goals as goal

-- what is told of them
told : (t before : Table) (e : Endpoint) (o : Option MapLease) → before ≡ t → o ≡ map_with_key e before.maps → o ≡ find (is_map_of e) t.maps
told t before e o seen is = is ∙ ap (λ (x : Table). map_with_key e x.maps) seen

pub run_of_map-requires : goal.run_of_map-requires
run_of_map-requires g c =
    let t = c.args.self.now.found in let e = c.args.key.now in
    let found = told t _ e _ (found_is c.self.view_is) c.in-Some.ensures.removed.answer in
    (All-IsIn IsMapLease t.maps c.in-Some.lease c.requires.tabled.maps.leases (find-some (is_map_of e) t.maps c.in-Some.lease (sym found)).0).ports

pub returns-in_default-clause-tabled : goal.returns-in_default-clause-tabled
returns-in_default-clause-tabled g c =
    let t = c.args.self.now.found in let e = c.args.key.now in
    subst AreTabled (sym (seen_without_map e t _ _ (found_is c.self.view_is) c.in_default.ensures.removed.removed)) (gone_tabled c.args.m e t c.requires.tabled c.fewer_maps_are_sound.ensures)

pub returns-in_default-clause-table : goal.returns-in_default-clause-table
returns-in_default-clause-table g c =
    let t = c.args.self.now.found in let e = c.args.key.now in
    ap (λ (x : Table). live x c.args.m) (seen_without_map e t _ _ (found_is c.self.view_is) c.in_default.ensures.removed.removed) ∙ gone_live c.args.m e t c.requires.tabled

pub returns-in_default-clause-touched : goal.returns-in_default-clause-touched
returns-in_default-clause-touched g c =
    let t = c.args.self.now.found in let e = c.args.key.now in
    ap (option_map map_run) (told t _ e _ (found_is c.self.view_is) c.in_default.ensures.removed.answer ∙ gone_is c.args.m e t c.requires.tabled c.requires.there)

pub returns-clause-tabled : goal.returns-clause-tabled
returns-clause-tabled g c =
    let t = c.args.self.now.found in let e = c.args.key.now in
    subst AreTabled (sym (seen_without_map e t _ _ (found_is c.self.view_is) c.in-Some.ensures.removed.removed)) (gone_tabled c.args.m e t c.requires.tabled c.fewer_maps_are_sound.ensures)

pub returns-clause-table : goal.returns-clause-table
returns-clause-table g c =
    let t = c.args.self.now.found in let e = c.args.key.now in
    ap (λ (x : Table). live x c.args.m) (seen_without_map e t _ _ (found_is c.self.view_is) c.in-Some.ensures.removed.removed) ∙ gone_live c.args.m e t c.requires.tabled

pub returns-clause-touched : goal.returns-clause-touched
returns-clause-touched g c =
    let t = c.args.self.now.found in let e = c.args.key.now in
    ap Some c.run_of_map.ensures.value
    ∙ ap (option_map map_run) (told t _ e _ (found_is c.self.view_is) c.in-Some.ensures.removed.answer ∙ gone_is c.args.m e t c.requires.tabled c.requires.there)

pub returns-clause-formed : goal.returns-clause-formed
returns-clause-formed g c =
    let t = c.args.self.now.found in let e = c.args.key.now in let l = c.in-Some.lease in
    let found = told t _ e _ (found_is c.self.view_is) c.in-Some.ensures.removed.answer in
    subst (λ (x : Table). IsEvenRun x.maps c.run_of_map.result) (sym (seen_without_map e t _ _ (found_is c.self.view_is) c.in-Some.ensures.removed.removed))
    (gone_even c.args.m e t c.requires.tabled l (sym found) c.run_of_map.result c.run_of_map.ensures.value c.run_of_map.ensures.formed)
