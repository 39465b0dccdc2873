use Rattle.std.specs.Option.{option_copied}
use Rattle.ordered_index.specs.Orders.{port_at}
use Rattle.mapping_table.proofs.Nearest.{no_port_nearest, port_nearest}
use Rattle.mapping_table.proofs.PortFinds.{last_found, no_last_number}
use Rattle.mapping_table.proofs.overlaps.nearest_port.Goals as goal

pub returns-in_default-clause-nearest : goal.returns-in_default-clause-nearest
returns-in_default-clause-nearest g c =
    let p = port_at c.args.port.0 c.args.port.1 in
    no_port_nearest c.args.kept.now c.requires p (no_last_number c.args.kept.now.ports p c.in_default.ensures)

pub returns-clause-nearest : goal.returns-clause-nearest
returns-clause-nearest g c =
    let p = port_at c.args.port.0 c.args.port.1 in
    let found = last_found c.args.kept.now c.requires p c.in-Some.slot (option_copied c.lease_in.result) c.lease_in.ensures.lease c.in-Some.ensures in
    port_nearest c.args.kept.now c.requires p found.0 found.1 (option_copied c.lease_in.result) found.2
