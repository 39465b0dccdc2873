use Rattle.std.specs.Map.{values_of}
use Rattle.std.proofs.Common.{◌≡◌, ◌≤◌, ◌+◌, ◌-◌, ◌*◌, List, length, filter, refl, sym, ap, ◌∙◌, subst}
use Rattle.pcp_base.specs.declared.leases.MapLease.{MapLease}
use Rattle.step_count.specs.Levels.{levels}
use Rattle.mapping_table.specs.Kept.{filters_at}
use Rattle.mapping_table.specs.MapLists.{is_live_map, IsNextCovered}
use Rattle.mapping_table.proofs.Wholes.{filter_whole, next_whole, levels_whole}
use Rattle.mapping_table.proofs.Views.{found_is}
use Rattle.mapping_table.proofs.table.MapTable.next_internal.Goals as goal

pub returns-clause-next : goal.returns-clause-next
returns-clause-next g c =
    let kept = filters_at c.self.inside.filters in let e = c.args.endpoint.now in let alive = is_live_map c.args.m in let ls = (values_of c.self.inside.leases.entries) in
    subst (λ (v : List MapLease). IsNextCovered e c.args.end v c.next_internal.result) (sym (filter_whole kept alive (λ fs l. refl) ls) ∙ ap (filter alive) (found_is c.self.view_is))
    (next_whole kept (filter alive ls) e c.args.end c.next_internal.result c.next_internal.ensures.next)

pub returns-clause-steps : goal.returns-clause-steps
returns-clause-steps g c =
    let seen : levels (length (values_of c.self.inside.leases.entries)) ≡ levels (length c.args.self.now.found) =
    sym (levels_whole (filters_at c.self.inside.filters) (values_of c.self.inside.leases.entries)) ∙ ap (λ (v : List MapLease). levels (length v)) (found_is c.self.view_is) in
    subst (λ n. c.next_internal.new.steps ≤ c.args.steps.now + (2 * (c.args.end - c.args.endpoint.now.port) + 1) * n) seen c.next_internal.ensures.steps
