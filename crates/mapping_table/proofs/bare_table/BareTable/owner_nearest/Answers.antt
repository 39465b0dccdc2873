use Rattle.std.proofs.Common.{sym, ap, ◌∙◌, Some, None}
use Rattle.ordered_index.specs.Orders.{port_at}
use Rattle.mapping_table.specs.MapLists.{map_owning}
use Rattle.mapping_table.proofs.Lookups.{last_port_has, owning_is, no_port_below, last_port_fails}
use Rattle.mapping_table.proofs.PortFinds.{last_found, no_last_number}
use Rattle.mapping_table.proofs.Views.{values_is}
use Rattle.mapping_table.proofs.bare_table.BareTable.owner_nearest.Goals as goal

pub returns-in_default-clause-lease : goal.returns-in_default-clause-lease
returns-in_default-clause-lease g c =
    let t = c.self.inside.kept in
    no_port_below t c.self.invariant.counted.kept c.args.protocol c.args.port (no_last_number t.ports (port_at c.args.protocol c.args.port) c.in_default.ensures)
    ∙ ap (map_owning c.args.protocol c.args.port) (values_is c.self.view_is)

pub returns-then-owns-clause-lease : goal.returns-then-owns-clause-lease
returns-then-owns-clause-lease g c =
    let t = c.self.inside.kept in
    let lease = c.in-Some-lease_in.lease.now in
    let found = last_found t c.self.invariant.counted.kept (port_at c.args.protocol c.args.port) c.in-Some.slot (Some lease) c.in-Some-lease_in.ensures.lease c.in-Some.ensures in
    owning_is t c.self.invariant.counted.kept c.args.protocol c.args.port found.0 lease (sym found.2) (sym c.owns.ensures ∙ c.if-owns.true)
    ∙ ap (map_owning c.args.protocol c.args.port) (values_is c.self.view_is)

pub returns-else-owns-clause-lease : goal.returns-else-owns-clause-lease
returns-else-owns-clause-lease g c =
    let t = c.self.inside.kept in
    let lease = c.in-Some-lease_in.lease.now in
    let found = last_found t c.self.invariant.counted.kept (port_at c.args.protocol c.args.port) c.in-Some.slot (Some lease) c.in-Some-lease_in.ensures.lease c.in-Some.ensures in
    last_port_fails t c.self.invariant.counted.kept c.args.protocol c.args.port found.0 lease found.1 (sym found.2) (sym c.owns.ensures ∙ c.if-owns.false)
    ∙ ap (map_owning c.args.protocol c.args.port) (values_is c.self.view_is)

pub returns-in_default-lease_in-clause-lease : goal.returns-in_default-lease_in-clause-lease
returns-in_default-lease_in-clause-lease g c =
    let t = c.self.inside.kept in
    let p = port_at c.args.protocol c.args.port in
    let found = last_found t c.self.invariant.counted.kept p c.in-Some.slot None c.in_default-lease_in.ensures.lease c.in-Some.ensures in
    absurd (last_port_has t c.self.invariant.counted.kept p found.0 found.1 found.2)
