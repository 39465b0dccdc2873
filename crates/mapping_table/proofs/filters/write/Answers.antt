use Rattle.std.proofs.Common.{rules, ◌≡◌, ◌<◌, [], Some, Option, List, cond, length, sym, ap, ◌∙◌}
use Rattle.std.specs.BTreeMap.{get, is_at}
use Rattle.pcp_base.specs.declared.leases.Filter.{Filter}
use Rattle.ordered_index.specs.Orders.{Place, place_cmp}
use Rattle.mapping_table.specs.Kept.{kept_filters}
use Rattle.mapping_table.proofs.Rooms.{some_kept}
use Rattle.mapping_table.proofs.filters.write.Goals as goal

pub returns-then-is_empty : goal.returns-then-is_empty
returns-then-is_empty c =
    let blank : c.args.wanted ≡ [] = search rules in
    λ q. c.remove.ensures.updates.0 q ∙ ap (λ (o : Option (List Filter)). cond (is_at (place_cmp c.args.place) q) o (get place_cmp c.args.filters.now q)) (sym (ap kept_filters blank))

pub returns-in-Some : goal.returns-in-Some
returns-in-Some c =
    let some : 0 < length c.args.wanted = search rules in
    let told : (q : Place) → get place_cmp (c.get_mut.follows.lender c.args.wanted) q ≡ cond (is_at (place_cmp c.args.place) q) (Some c.args.wanted) (get place_cmp c.args.filters.now q) = search rules in
    λ q. told q ∙ ap (λ (o : Option (List Filter)). cond (is_at (place_cmp c.args.place) q) o (get place_cmp c.args.filters.now q)) (sym (some_kept c.args.wanted some))
