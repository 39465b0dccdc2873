use Rattle.std.proofs.Common.{List, None, subst}
use Rattle.pcp_base.specs.declared.leases.PeerLease.{PeerLease}
use Rattle.peer_table.specs.PeerLists.{IsNextOwned}
use Rattle.peer_table.proofs.NextOwned.{owned_nowhere, owned_first}
use Rattle.peer_table.proofs.Views.{found_is}
use Rattle.peer_table.proofs.table.PeerTable.next_owned.Goals as goal

pub returns-in_default-clause-next : goal.returns-in_default-clause-next
returns-in_default-clause-next g c =
    subst (λ (v : List PeerLease). IsNextOwned c.args.protocol c.args.port v None) (found_is c.self.view_is)
    (owned_nowhere c.args.protocol c.args.port c.opening_bound.result c.opening_bound.ensures c.self.inside.kept c.self.invariant.kept c.in_default.ensures)

pub returns-clause-next : goal.returns-clause-next
returns-clause-next g c =
    subst (λ (v : List PeerLease). IsNextOwned c.args.protocol c.args.port v c.port_of.result) (found_is c.self.view_is)
    (owned_first c.args.protocol c.args.port c.opening_bound.result c.opening_bound.ensures c.self.inside.kept c.self.invariant.kept c.in-Some.first c.in-Some.ensures
    c.port_of.result c.port_of.ensures.some c.port_of.ensures.none)
