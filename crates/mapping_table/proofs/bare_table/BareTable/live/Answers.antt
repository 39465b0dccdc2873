use Rattle.std.proofs.Common.{◌-◌, count_by, ap, ◌∙◌, arith}
use Rattle.mapping_table.specs.MapLists.{is_live_map}
use Rattle.pcp_base.specs.declared.leases.MapLease.{MapLease}
use Rattle.ordered_index.proofs.Endings.{ended-few, live-count}
use Rattle.mapping_table.proofs.Views.{values_is}
use Rattle.mapping_table.proofs.bare_table.BareTable.live.Goals as goal

pub overflow_sub-result : goal.overflow_sub-result
overflow_sub-result c =
    let few = ended-few (λ (l : MapLease). l.expiry) c.self.inside.kept.leases c.self.invariant.counted.kept.kept.ordered c.args.m c.ended.result c.ended.ensures in
    let all = c.len.ensures.len in
    omega (arith, few, all)

pub returns : goal.returns
returns c =
    ap (λ n. n - c.ended.result) c.len.ensures.len ∙ live-count (λ (l : MapLease). l.expiry) c.self.inside.kept.leases c.self.invariant.counted.kept.kept.ordered c.args.m c.ended.result c.ended.ensures
    ∙ ap (count_by (is_live_map c.args.m)) (values_is c.self.view_is)
