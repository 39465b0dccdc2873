use Rattle.std.proofs.Common.{rules, ◌≡◌, List, Some, None, IsSome, subst, sym, refl}
use Rattle.std.specs.Ordering.{nat_cmp}
use Rattle.std.specs.BTreeMap.{get}
use Rattle.pcp_base.specs.declared.leases.PeerLease.{PeerLease}
use Rattle.peer_table.specs.PeerLists.{is_live_peer, IsPortUse}
use Rattle.peer_table.proofs.PeerKeys.{bounds_forward}
use Rattle.peer_table.proofs.PortUses.{few_there, none_pass, first_stands, used}
use Rattle.peer_table.proofs.Views.{found_is}
use Rattle.peer_table.proofs.table.PeerTable.of_endpoint.Goals as goal

pub first_live-requires-clause-forward : goal.first_live-requires-clause-forward
first_live-requires-clause-forward g c = bounds_forward c.args.endpoint.now c.bound_at-from.result c.bound_at-to.result c.bound_at-from.ensures c.bound_at-to.ensures

pub first_live-requires-clause-few : goal.first_live-requires-clause-few
first_live-requires-clause-few g c = few_there c.self.inside.kept c.self.invariant.kept c.args.endpoint.now c.bound_at-from.result c.bound_at-to.result c.bound_at-from.ensures c.bound_at-to.ensures

pub returns-in_default-clause-used : goal.returns-in_default-clause-used
returns-in_default-clause-used g c =
    let e = c.args.endpoint.now in
    let none = none_pass c.self.inside.kept c.self.invariant.kept e c.bound_at-from.result c.bound_at-to.result c.bound_at-from.ensures c.bound_at-to.ensures (is_live_peer c.args.m) c.in_default.ensures.first in
    subst (λ (v : List PeerLease). IsPortUse e c.args.m v None) (found_is c.self.view_is) (record { external = tt; count = tt; none = none })

pub index-requires : goal.index-requires
index-requires g c =
    let y = first_stands c.self.inside.kept c.self.invariant.kept c.args.endpoint.now c.bound_at-from.result c.bound_at-to.result c.bound_at-from.ensures c.bound_at-to.ensures (is_live_peer c.args.m) c.in-Some.number c.in-Some.ensures.first in
    subst IsSome (sym y.stands) refl

pub count_live-count-requires-clause-forward : goal.count_live-count-requires-clause-forward
count_live-count-requires-clause-forward g c = bounds_forward c.args.endpoint.now c.bound_at-from.result c.bound_at-to.result c.bound_at-from.ensures c.bound_at-to.ensures

pub count_live-count-requires-clause-few : goal.count_live-count-requires-clause-few
count_live-count-requires-clause-few g c = few_there c.self.inside.kept c.self.invariant.kept c.args.endpoint.now c.bound_at-from.result c.bound_at-to.result c.bound_at-from.ensures c.bound_at-to.ensures

pub returns-clause-used : goal.returns-clause-used
returns-clause-used g c =
    let e = c.args.endpoint.now in
    let at_n : get nat_cmp c.self.inside.kept.leases c.in-Some.number ≡ Some c.index.result.now = search rules in
    subst (λ (v : List PeerLease). IsPortUse e c.args.m v (Some (record { external = c.index.result.now.external; count = c.count_live-count.result }))) (found_is c.self.view_is)
    (used c.self.inside.kept c.self.invariant.kept e c.bound_at-from.result c.bound_at-to.result c.bound_at-from.ensures c.bound_at-to.ensures c.args.m
    c.in-Some.number c.index.result.now c.index.result.now.external c.count_live-count.result c.in-Some.ensures.first at_n refl c.count_live-count.ensures.count)
