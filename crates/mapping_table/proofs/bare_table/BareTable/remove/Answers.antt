use Rattle.std.specs.Map.{values_of}
use Rattle.std.proofs.Common.{List, None, not, filter, sym, ap, ◌∙◌, subst}
use Rattle.pcp_base.specs.declared.leases.Endpoint.{Endpoint}
use Rattle.pcp_base.specs.declared.leases.MapLease.{MapLease}
use Rattle.pcp_base.specs.Tables.{is_map_of}
use Rattle.std.specs.BTreeMap.{get}
use Rattle.ordered_index.specs.Orders.{place_of, place_cmp}
use Rattle.ordered_index.proofs.Keeping.{key-found}
use Rattle.mapping_table.specs.Kept.{map_keying, leases_in}
use Rattle.mapping_table.specs.MapLists.{RemovesMap, map_with_key}
use Rattle.mapping_table.proofs.Lookups.{number_stands}
use Rattle.mapping_table.proofs.MapKeeping.{map_laws, map_tells, none_removed}
use Rattle.mapping_table.proofs.Numberings.{begins_at, numbers_removed}
use Rattle.mapping_table.proofs.Views.{values_is, number_is}
use Rattle.mapping_table.proofs.bare_table.BareTable.remove.Goals as goal

pub returns-in_default-clause-removed : goal.returns-in_default-clause-removed
returns-in_default-clause-removed g c =
    subst (λ (v : List MapLease). RemovesMap v c.args.key.now None v) (values_is c.self.view_is)
    (none_removed c.self.inside.kept c.self.invariant.counted.kept c.args.key.now c.place_of.result c.place_of.ensures (sym c.in_default.ensures))

pub returns-in_default-copied-clause-removed : goal.returns-in_default-copied-clause-removed
returns-in_default-copied-clause-removed g c =
    absurd (number_stands c.self.inside.kept c.self.invariant.counted.kept c.place_of.result c.in-Some.number (sym c.in-Some.ensures) (c.in_default-copied.ensures ∙ c.lease_at.ensures.lease))

pub returns-clause-removed : goal.returns-clause-removed
returns-clause-removed g c =
    let t = c.self.inside.kept in let kept = c.self.invariant.counted.kept in let e = c.args.key.now in let n = c.in-Some.number in let x = c.in-Some-copied.lease in
    let at_n = sym (c.in-Some-copied.ensures ∙ c.lease_at.ensures.lease) in
    let number = ap (get place_cmp t.keys) (sym c.place_of.ensures) ∙ sym c.in-Some.ensures in
    record {
      answer = sym at_n ∙ key-found map_keying map_laws t kept.kept (is_map_of e) (place_of e) n (map_tells e) number ∙ ap (map_with_key e) (values_is c.self.view_is);
      removed = c.take.ensures.removed ∙ ap (λ (z : Endpoint). filter (λ (l : MapLease). not (is_map_of z l)) (values_of c.args.self.now.entries)) (begins_at t kept n x at_n e c.place_of.result c.place_of.ensures (sym c.in-Some.ensures));
    }
