use Rattle.std.proofs.Common.{sym, ap, ◌∙◌, subst, Some, None}
use Rattle.mapping_table.specs.MapLists.{map_covering}
use Rattle.ordered_index.specs.Orders.{Place, place_cmp, IsLast}
use Rattle.mapping_table.proofs.Lookups.{last_has, covering_is, none_below, last_fails}
use Rattle.mapping_table.proofs.Views.{values_is}
use Rattle.mapping_table.proofs.bare_table.BareTable.find_nearest.Goals as goal

pub returns-in_default-clause-lease : goal.returns-in_default-clause-lease
returns-in_default-clause-lease g c =
    let t = c.self.inside.kept in
    none_below t c.self.invariant.counted.kept c.args.endpoint.now (subst (λ (p : Place). IsLast place_cmp t.keys p None) c.place_of.ensures c.in_default.ensures)
    ∙ ap (map_covering c.args.endpoint.now) (values_is c.self.view_is)

pub returns-then-covers-clause-lease : goal.returns-then-covers-clause-lease
returns-then-covers-clause-lease g c =
    let t = c.self.inside.kept in
    covering_is t c.self.invariant.counted.kept c.args.endpoint.now c.in-Some.number c.in-Some-lease_at.lease.now (sym c.in-Some-lease_at.ensures.lease) (sym c.covers.ensures ∙ c.if-covers.true)
    ∙ ap (map_covering c.args.endpoint.now) (values_is c.self.view_is)

pub returns-else-covers-clause-lease : goal.returns-else-covers-clause-lease
returns-else-covers-clause-lease g c =
    let t = c.self.inside.kept in
    last_fails t c.self.invariant.counted.kept c.args.endpoint.now c.in-Some.number c.in-Some-lease_at.lease.now
    (subst (λ (p : Place). IsLast place_cmp t.keys p (Some c.in-Some.number)) c.place_of.ensures c.in-Some.ensures)
    (sym c.in-Some-lease_at.ensures.lease) (sym c.covers.ensures ∙ c.if-covers.false)
    ∙ ap (map_covering c.args.endpoint.now) (values_is c.self.view_is)

pub returns-in_default-lease_at-clause-lease : goal.returns-in_default-lease_at-clause-lease
returns-in_default-lease_at-clause-lease g c =
    absurd (last_has c.self.inside.kept c.self.invariant.counted.kept c.place_of.result c.in-Some.number c.in-Some.ensures c.in_default-lease_at.ensures.lease)
