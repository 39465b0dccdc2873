use Rattle.std.proofs.Common.{refl, ap, ◌∙◌}
use Rattle.std.specs.BTreeMap.{get}
use Rattle.std.specs.Option.{option_copied}
use Rattle.ordered_index.specs.Orders.{port_at, port_cmp}
use Rattle.mapping_table.specs.MapLists.{map_owning}
use Rattle.mapping_table.proofs.Lookups.{first_owned, no_first_port}
use Rattle.mapping_table.proofs.PortFinds.{no_number, slot_found}
use Rattle.mapping_table.proofs.Views.{values_is}
use Rattle.mapping_table.proofs.bare_table.BareTable.by_external.Goals as goal

pub returns-in-Some-clause-lease : goal.returns-in-Some-clause-lease
returns-in-Some-clause-lease g c =
    let t = c.self.inside.kept in
    let p = port_at c.args.protocol c.args.port in
    let found = slot_found t c.self.invariant.counted.kept p c.in-Some.slot (option_copied c.lease_in.result) c.lease_in.ensures.lease c.in-Some.ensures in
    found.2
    ∙ first_owned t c.self.invariant.counted.kept c.args.protocol c.args.port p found.0 refl found.1
    ∙ ap (map_owning c.args.protocol c.args.port) (values_is c.self.view_is)

pub returns-then-self-eq0-clause-lease : goal.returns-then-self-eq0-clause-lease
returns-then-self-eq0-clause-lease g c =
    let t = c.self.inside.kept in
    let p = port_at c.args.protocol c.args.port in
    no_first_port t c.self.inside.sets c.self.invariant.counted c.if-self-eq0.true c.args.protocol c.args.port p refl (no_number (get port_cmp t.ports p) c.in_default.ensures)
    ∙ ap (map_owning c.args.protocol c.args.port) (values_is c.self.view_is)
