use Rattle.std.proofs.Common.{sym, ap, ◌∙◌}
use Rattle.mapping_table.specs.MapLists.{map_covering}
use Rattle.mapping_table.proofs.Lookups.{first_found, no_first}
use Rattle.mapping_table.proofs.Views.{values_is}
use Rattle.mapping_table.proofs.bare_table.BareTable.find.Goals as goal

pub returns-in-Some-clause-lease : goal.returns-in-Some-clause-lease
returns-in-Some-clause-lease g c =
    let t = c.self.inside.kept in
    c.lease_at.ensures.lease
    ∙ first_found t c.self.invariant.counted.kept c.args.endpoint.now c.place_of.result c.in-Some.number c.place_of.ensures (sym c.in-Some.ensures)
    ∙ ap (map_covering c.args.endpoint.now) (values_is c.self.view_is)

pub returns-then-self-eq0-clause-lease : goal.returns-then-self-eq0-clause-lease
returns-then-self-eq0-clause-lease g c =
    let t = c.self.inside.kept in
    no_first t c.self.inside.sets c.self.invariant.counted c.if-self-eq0.true c.args.endpoint.now c.place_of.result c.place_of.ensures (sym c.in_default.ensures)
    ∙ ap (map_covering c.args.endpoint.now) (values_is c.self.view_is)
