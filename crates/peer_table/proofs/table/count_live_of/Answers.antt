use Rattle.std.proofs.Common.{◌∙◌, ◌-◌, ap, arith}
use Rattle.ordered_index.proofs.Endings.{ended-few, live-count}
use Rattle.pcp_base.specs.declared.leases.PeerLease.{PeerLease}
use Rattle.peer_table.proofs.table.count_live_of.Goals as goal

pub overflow_sub-result : goal.overflow_sub-result
overflow_sub-result c =
    let few = ended-few (λ (l : PeerLease). l.expiry) c.args.kept.now.leases c.requires.kept.ordered c.args.m c.ended.result c.ended.ensures in
    let all = c.len.ensures.len in
    omega (arith, few, all)

pub returns : goal.returns
returns c = ap (λ n. n - c.ended.result) c.len.ensures.len ∙ live-count (λ (l : PeerLease). l.expiry) c.args.kept.now.leases c.requires.kept.ordered c.args.m c.ended.result c.ended.ensures
