use Rattle.std.specs.Map.{values_of}
use Rattle.std.proofs.Common.{◌≡◌, List, length, not, sym, ap, ◌∙◌, arith}
use Rattle.std.specs.List.{list_any}
use Rattle.step_count.specs.Levels.{levels}
use Rattle.pcp_base.specs.declared.leases.MapLease.{MapLease}
use Rattle.mapping_table.specs.Kept.{filters_at}
use Rattle.mapping_table.specs.MapLists.{is_live_map}
use Rattle.mapping_table.proofs.Wholes.{ended_whole, levels_whole}
use Rattle.mapping_table.proofs.Views.{found_is}
use Rattle.mapping_table.proofs.table.MapTable.has_ended.Goals as goal

pub returns-clause-ended : goal.returns-clause-ended
returns-clause-ended g c =
    c.has_ended.ensures.ended ∙ sym (ended_whole (filters_at c.self.inside.filters) (values_of c.self.inside.leases.entries) c.args.m) ∙ ap (list_any (λ l. not (is_live_map c.args.m l))) (found_is c.self.view_is)

pub returns-clause-steps : goal.returns-clause-steps
returns-clause-steps g c =
    let seen : levels (length c.args.self.now.found) ≡ levels (length (values_of c.self.inside.leases.entries)) =
    ap (λ (v : List MapLease). levels (length v)) (sym (found_is c.self.view_is)) ∙ levels_whole (filters_at c.self.inside.filters) (values_of c.self.inside.leases.entries) in
    let a = c.has_ended.ensures.steps in omega (arith, seen, a)
