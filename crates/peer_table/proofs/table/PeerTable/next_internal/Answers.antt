use Rattle.std.proofs.Common.{List, filter, subst}
use Rattle.pcp_base.specs.declared.leases.PeerLease.{PeerLease}
use Rattle.peer_table.specs.PeerLists.{is_live_peer, IsNextNamed}
use Rattle.peer_table.proofs.Views.{found_is}
use Rattle.peer_table.proofs.table.PeerTable.next_internal.Goals as goal

pub returns-clause-next : goal.returns-clause-next
returns-clause-next g c =
    subst (λ (v : List PeerLease). IsNextNamed c.args.endpoint.now c.args.end (filter (is_live_peer c.args.m) v) c.next_live.result) (found_is c.self.view_is) c.next_live.ensures.next
