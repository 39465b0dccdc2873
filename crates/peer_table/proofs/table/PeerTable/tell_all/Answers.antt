use Rattle.std.proofs.Common.{◌≤◌, subst, length, List}
use Rattle.pcp_base.specs.declared.leases.PeerLease.{PeerLease}
use Rattle.pcp_base.specs.declared.leases.TheConstants.{MOST_LEASES}
use Rattle.ordered_index.specs.Aged.{AreTogether}
use Rattle.peer_table.proofs.Past.{are_together, few_past}
use Rattle.peer_table.proofs.Views.{past_is}
use Rattle.peer_table.proofs.table.PeerTable.tell_all.Goals as goal

pub returns-clause-together : goal.returns-clause-together
returns-clause-together c = subst AreTogether c.self.view_is (are_together c.self.inside.kept c.self.inside.past c.self.inside.gone c.self.invariant)

pub returns-clause-few : goal.returns-clause-few
returns-clause-few c =
    subst (λ (v : List PeerLease). length v ≤ MOST_LEASES) (past_is c.self.view_is) (few_past c.self.inside.kept c.self.inside.past c.self.inside.gone c.self.invariant)
