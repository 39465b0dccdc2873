use Rattle.std.proofs.Common.{List, None, sym, subst}
use Rattle.std.specs.Ordering.{nat_cmp}
use Rattle.std.specs.BTreeMap.{get}
use Rattle.pcp_base.specs.declared.leases.PeerLease.{PeerLease}
use Rattle.peer_table.specs.PeerLists.{IsEndedOf}
use Rattle.peer_table.proofs.PeerKeys.{bounds_forward}
use Rattle.peer_table.proofs.PortUses.{few_there, ended_first, ended_none}
use Rattle.peer_table.proofs.Views.{found_is}
use Rattle.peer_table.proofs.table.PeerTable.ended_of.Goals as goal

pub first_ended-requires-clause-forward : goal.first_ended-requires-clause-forward
first_ended-requires-clause-forward g c = bounds_forward c.args.endpoint.now c.bound_at-from.result c.bound_at-to.result c.bound_at-from.ensures c.bound_at-to.ensures

pub first_ended-requires-clause-few : goal.first_ended-requires-clause-few
first_ended-requires-clause-few g c = few_there c.self.inside.kept c.self.invariant.kept c.args.endpoint.now c.bound_at-from.result c.bound_at-to.result c.bound_at-from.ensures c.bound_at-to.ensures

pub returns-in_default-clause-ended : goal.returns-in_default-clause-ended
returns-in_default-clause-ended g c =
    let e = c.args.endpoint.now in
    subst (λ (v : List PeerLease). IsEndedOf e c.args.m v None) (found_is c.self.view_is) (ended_none c.self.inside.kept c.self.invariant.kept e c.bound_at-from.result c.bound_at-to.result c.bound_at-from.ensures c.bound_at-to.ensures c.args.m c.in_default.ensures.first)

pub returns-clause-ended : goal.returns-clause-ended
returns-clause-ended g c =
    let e = c.args.endpoint.now in
    subst (IsEndedOf e c.args.m c.args.self.now.found) (sym c.lease_at.ensures.lease)
    (subst (λ (v : List PeerLease). IsEndedOf e c.args.m v (get nat_cmp c.self.inside.kept.leases c.in-Some.number)) (found_is c.self.view_is) (ended_first c.self.inside.kept c.self.invariant.kept e c.bound_at-from.result c.bound_at-to.result c.bound_at-from.ensures c.bound_at-to.ensures c.args.m c.in-Some.number c.in-Some.ensures.first))
