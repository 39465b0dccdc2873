use Rattle.std.proofs.Common.{List, Some, subst}
use Rattle.std.specs.Option.{option_copied}
use Rattle.std.specs.BTreeMap.{values}
use Rattle.pcp_base.specs.declared.leases.PeerLease.{PeerLease}
use Rattle.peer_table.specs.PeerLists.{has_other_port, IsOverlapped}
use Rattle.peer_table.proofs.Fellows.{told_among, second_tells}
use Rattle.peer_table.proofs.Views.{found_is}
use Rattle.peer_table.proofs.table.PeerTable.overlapping.Goals as goal

pub returns-in-Some-clause-overlapped : goal.returns-in-Some-clause-overlapped
returns-in-Some-clause-overlapped g c =
    subst (λ (v : List PeerLease). IsOverlapped c.args.lease.now v (Some c.in-Some.other.now)) (found_is c.self.view_is)
    (told_among c.args.lease.now (values c.self.inside.kept.leases) has_other_port (option_copied c.of_endpoint.result) c.of_endpoint.ensures.told c.in-Some.other.now c.in-Some.ensures)

pub returns-clause-overlapped : goal.returns-clause-overlapped
returns-clause-overlapped g c =
    subst (λ (v : List PeerLease). IsOverlapped c.args.lease.now v (option_copied c.overlapped-2.result)) (found_is c.self.view_is)
    (second_tells c.args.lease.now (values c.self.inside.kept.leases) (option_copied c.overlapped-2.result) (option_copied c.of_endpoint.result) (option_copied c.of_port.result)
    c.of_endpoint.ensures.told c.of_port.ensures.told c.in_default.ensures c.overlapped-2.ensures)
