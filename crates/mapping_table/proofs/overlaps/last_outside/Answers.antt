use Rattle.std.proofs.Common.{sym, ◌∙◌}
use Rattle.std.specs.Option.{option_copied}
use Rattle.std.specs.BTreeMap.{values}
use Rattle.ordered_index.specs.Orders.{port_at}
use Rattle.mapping_table.proofs.Meetings.{last_none, last_other, last_same}
use Rattle.mapping_table.proofs.overlaps.last_outside.Goals as goal

pub returns-in_default-clause-met : goal.returns-in_default-clause-met
returns-in_default-clause-met g c =
    last_none (values c.args.kept.now.leases) c.requires.sound c.args.lease.now (port_at c.last_port.result.0 c.last_port.result.1) c.last_port.ensures c.in_default.ensures.nearest

pub returns-then-not-has_key_of-clause-met : goal.returns-then-not-has_key_of-clause-met
returns-then-not-has_key_of-clause-met g c =
    last_other (values c.args.kept.now.leases) c.requires.sound c.args.lease.now (port_at c.last_port.result.0 c.last_port.result.1) c.last_port.ensures c.in-Some.last.now c.in-Some.ensures.nearest
    (sym c.has_key_of.ensures ∙ c.if-not-has_key_of.true)

pub returns-clause-met : goal.returns-clause-met
returns-clause-met g c =
    last_same (values c.args.kept.now.leases) c.requires.sound c.args.lease.now (port_at c.last_port.result.0 c.last_port.result.1) c.last_port.ensures c.in-Some.last.now c.in-Some.ensures.nearest
    (sym c.has_key_of.ensures ∙ c.if-not-has_key_of.false) (port_at c.port_before.result.0 c.port_before.result.1) c.port_before.ensures (option_copied c.nearest_port-2.result) c.nearest_port-2.ensures.nearest
