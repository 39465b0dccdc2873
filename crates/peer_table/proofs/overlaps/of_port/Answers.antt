use Rattle.std.specs.Option.{option_copied}
use Rattle.peer_table.proofs.Fellows.{port_tells, port_none}
use Rattle.peer_table.proofs.overlaps.of_port.Goals as goal

pub returns-in_default-clause-told : goal.returns-in_default-clause-told
returns-in_default-clause-told g c =
    port_none c.args.lease.now c.args.kept.now c.requires c.opening_bound-from.result c.opening_bound-to.result c.opening_bound-from.ensures c.opening_bound-to.ensures c.in_default.ensures.first

pub returns-clause-told : goal.returns-clause-told
returns-clause-told g c =
    port_tells c.args.lease.now c.args.kept.now c.requires c.opening_bound-from.result c.opening_bound-to.result c.opening_bound-from.ensures c.opening_bound-to.ensures
    (option_copied c.lease_at.result) c.in-Some.number c.in-Some.ensures.first c.lease_at.ensures.lease
