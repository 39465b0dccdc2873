use Rattle.std.specs.Option.{option_copied}
use Rattle.peer_table.proofs.Fellows.{endpoint_tells, endpoint_none}
use Rattle.peer_table.proofs.OneRemote.{one_remote}
use Rattle.peer_table.proofs.PeerKeys.{bounds_forward}
use Rattle.peer_table.proofs.overlaps.of_endpoint.Goals as goal

pub returns-in_default-clause-told : goal.returns-in_default-clause-told
returns-in_default-clause-told g c =
    endpoint_none c.args.lease.now c.args.kept.now c.requires c.bound_at-from.result c.bound_at-to.result c.bound_at-from.ensures c.bound_at-to.ensures c.in_default.ensures.first

pub returns-clause-told : goal.returns-clause-told
returns-clause-told g c =
    endpoint_tells c.args.lease.now c.args.kept.now c.requires c.bound_at-from.result c.bound_at-to.result c.bound_at-from.ensures c.bound_at-to.ensures
    (option_copied c.lease_at.result) c.in-Some.number c.in-Some.ensures.first c.lease_at.ensures.lease

pub first_elsewhere-requires-clause-forward : goal.first_elsewhere-requires-clause-forward
first_elsewhere-requires-clause-forward g c = bounds_forward c.args.lease.now.endpoint c.bound_at-from.result c.bound_at-to.result c.bound_at-from.ensures c.bound_at-to.ensures

pub first_elsewhere-requires-clause-one : goal.first_elsewhere-requires-clause-one
first_elsewhere-requires-clause-one g c = one_remote c.args.lease.now c.args.kept.now c.requires c.bound_at-from.result c.bound_at-to.result c.bound_at-from.ensures c.bound_at-to.ensures
