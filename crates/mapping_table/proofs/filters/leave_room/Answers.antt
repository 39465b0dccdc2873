use Rattle.std.proofs.Common.{rules, ◌≡◌, ◌<◌, [], Some, None, Option, List, cond, length, sym, ap, ◌∙◌}
use Rattle.std.specs.BTreeMap.{get, is_at}
use Rattle.pcp_base.specs.declared.leases.Filter.{Filter}
use Rattle.ordered_index.specs.Orders.{place_cmp}
use Rattle.mapping_table.specs.Kept.{listed, filters_at, kept_filters}
use Rattle.mapping_table.proofs.Rooms.{some_kept, writes_same}
use Rattle.mapping_table.proofs.filters.leave_room.Goals as goal

pub returns-in_default : goal.returns-in_default
returns-in_default c =
    let old = c.args.filters.now in
    let none : get place_cmp old c.args.place ≡ None = search rules in
    writes_same old c.args.place (filters_at old c.args.place) (none ∙ ap (λ o. kept_filters (listed o)) (sym none))

pub returns-then-is_empty : goal.returns-then-is_empty
returns-then-is_empty c =
    let old = c.args.filters.now in
    let blank : c.in-Some.found.now ≡ [] = search rules in
    let at : filters_at old c.args.place ≡ [] = ap listed (sym c.in-Some.ensures.value) ∙ blank in
    λ q. c.remove.ensures.updates.0 q ∙ ap (λ (o : Option (List Filter)). cond (is_at (place_cmp c.args.place) q) o (get place_cmp old q)) (sym (ap kept_filters at))

pub returns-else-is_empty : goal.returns-else-is_empty
returns-else-is_empty c =
    let old = c.args.filters.now in
    let found : get place_cmp old c.args.place ≡ Some c.in-Some.found.now = sym c.in-Some.ensures.value in
    let some : 0 < length c.in-Some.found.now = search rules in
    writes_same old c.args.place (filters_at old c.args.place) (found ∙ sym (some_kept c.in-Some.found.now some) ∙ ap (λ o. kept_filters (listed o)) (sym found))
