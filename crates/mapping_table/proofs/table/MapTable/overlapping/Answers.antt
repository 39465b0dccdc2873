use Rattle.std.specs.Map.{values_of}
use Rattle.std.proofs.Common.{◌≡◌, List, length, sym, ap, ◌∙◌, subst, arith}
use Rattle.step_count.specs.Levels.{levels}
use Rattle.pcp_base.specs.declared.leases.MapLease.{MapLease}
use Rattle.mapping_table.specs.Kept.{filters_at}
use Rattle.mapping_table.specs.MapLists.{IsOverlapped}
use Rattle.mapping_table.proofs.Meetings.{overlapped_whole}
use Rattle.mapping_table.proofs.Wholes.{levels_whole}
use Rattle.mapping_table.proofs.Views.{found_is}
use Rattle.mapping_table.proofs.table.MapTable.overlapping.Goals as goal

pub returns-clause-overlapped : goal.returns-clause-overlapped
returns-clause-overlapped g c =
    let kept = filters_at c.self.inside.filters in let ls = (values_of c.self.inside.leases.entries) in
    subst (λ (v : List MapLease). IsOverlapped c.args.lease.now v c.overlapping.result) (found_is c.self.view_is)
    (overlapped_whole kept c.args.lease.now ls c.overlapping.result
    (subst (λ (l : MapLease). IsOverlapped l ls c.overlapping.result) c.of.ensures c.overlapping.ensures.overlapped))

pub returns-clause-steps : goal.returns-clause-steps
returns-clause-steps g c =
    let seen : levels (length c.args.self.now.found) ≡ levels (length (values_of c.self.inside.leases.entries)) =
    ap (λ (v : List MapLease). levels (length v)) (sym (found_is c.self.view_is)) ∙ levels_whole (filters_at c.self.inside.filters) (values_of c.self.inside.leases.entries) in
    let a = c.overlapping.ensures.steps in omega (arith, seen, a)
