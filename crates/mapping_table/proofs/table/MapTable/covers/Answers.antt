use Rattle.std.specs.Map.{values_of}
use Rattle.std.proofs.Common.{◌≡◌, List, length, refl, sym, ap, ◌∙◌, arith}
use Rattle.pcp_base.specs.Tables.{covers}
use Rattle.step_count.specs.Levels.{levels}
use Rattle.pcp_base.specs.declared.leases.MapLease.{MapLease}
use Rattle.mapping_table.specs.Kept.{filters_at}
use Rattle.mapping_table.specs.MapLists.{some_live_map, map_covering}
use Rattle.mapping_table.proofs.Wholes.{find_whole, some_live_whole, levels_whole}
use Rattle.mapping_table.proofs.Views.{found_is}
use Rattle.mapping_table.proofs.table.MapTable.covers.Goals as goal

pub returns-clause-covers : goal.returns-clause-covers
returns-clause-covers g c =
    let kept = filters_at c.self.inside.filters in let e = c.args.endpoint.now in let m = c.args.m in
    c.covers.ensures.covers ∙ sym (some_live_whole kept m (map_covering e (values_of c.self.inside.leases.entries)))
    ∙ ap (some_live_map m) (sym (find_whole kept (λ l. covers l e) (λ fs l. refl) (values_of c.self.inside.leases.entries)) ∙ ap (map_covering e) (found_is c.self.view_is))

pub returns-clause-steps : goal.returns-clause-steps
returns-clause-steps g c =
    let seen : levels (length c.args.self.now.found) ≡ levels (length (values_of c.self.inside.leases.entries)) =
    ap (λ (v : List MapLease). levels (length v)) (sym (found_is c.self.view_is)) ∙ levels_whole (filters_at c.self.inside.filters) (values_of c.self.inside.leases.entries) in
    let a = c.covers.ensures.steps in omega (arith, seen, a)
