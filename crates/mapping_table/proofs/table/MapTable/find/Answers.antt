use Rattle.std.specs.Map.{values_of}
use Rattle.std.proofs.Common.{◌≡◌, List, length, refl, sym, ap, ◌∙◌, arith}
use Rattle.std.specs.Option.{option_map}
use Rattle.pcp_base.specs.Tables.{covers}
use Rattle.step_count.specs.Levels.{levels}
use Rattle.pcp_base.specs.declared.leases.MapLease.{MapLease}
use Rattle.mapping_table.specs.Kept.{filters_at, whole}
use Rattle.mapping_table.specs.MapLists.{map_covering}
use Rattle.mapping_table.proofs.Wholes.{find_whole, levels_whole}
use Rattle.mapping_table.proofs.Views.{found_is}
use Rattle.mapping_table.proofs.table.MapTable.find.Goals as goal

pub returns-clause-lease : goal.returns-clause-lease
returns-clause-lease g c =
    let kept = filters_at c.self.inside.filters in
    c.whole_by_look.ensures.lease ∙ ap (option_map (whole kept)) c.find-found.ensures.lease
    ∙ sym (find_whole kept (λ l. covers l c.args.endpoint.now) (λ fs l. refl) (values_of c.self.inside.leases.entries)) ∙ ap (map_covering c.args.endpoint.now) (found_is c.self.view_is)

pub returns-clause-steps : goal.returns-clause-steps
returns-clause-steps g c =
    let seen : levels (length c.args.self.now.found) ≡ levels (length (values_of c.self.inside.leases.entries)) =
    ap (λ (v : List MapLease). levels (length v)) (sym (found_is c.self.view_is)) ∙ levels_whole (filters_at c.self.inside.filters) (values_of c.self.inside.leases.entries) in
    let size : levels c.len.result ≡ levels (length (values_of c.self.inside.leases.entries)) = ap levels c.len.ensures in
    let a = c.find-found.ensures.steps in let b = c.whole_by_look.ensures.steps in
    omega (arith, seen, size, a, b)
