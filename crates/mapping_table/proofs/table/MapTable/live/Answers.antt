use Rattle.std.specs.Map.{values_of}
use Rattle.std.proofs.Common.{◌≡◌, ◌≤◌, length, count_by, refl, sym, ap, ◌∙◌, arith}
use Rattle.std.specs.BTreeMap.{values}
use Rattle.std.proofs.lemmas.List.Sums.{count_by-le-length}
use Rattle.pcp_base.specs.declared.leases.MapLease.{MapLease}
use Rattle.ordered_index.specs.Aged.{Aged}
use Rattle.mapping_table.specs.Kept.{aged_maps, filters_at}
use Rattle.mapping_table.specs.MapLists.{is_live_map}
use Rattle.mapping_table.proofs.AgedMaps.{maps_together}
use Rattle.mapping_table.proofs.Wholes.{count_whole}
use Rattle.mapping_table.proofs.Views.{past_is, all_is}
use Rattle.mapping_table.proofs.table.MapTable.live.Goals as goal

pub overflow_add-result : goal.overflow_add-result
overflow_add-result c =
    let ls = values_of c.self.inside.leases.entries in
    let some = count_by-le-length (is_live_map c.args.m) ls in
    let few : length ls ≤ 32768 = c.self.invariant.whole.sound.few in
    let live = c.live.ensures in let past = c.live_past.ensures.few in
    omega (arith, some, few, live, past)

pub returns : goal.returns
returns c =
    let alive = is_live_map c.args.m in let t = c.self.inside in
    let both = (maps_together t.leases t.filters t.past c.tell_order.ensures.ordered c.self.invariant.apart).counted alive in
    let found = c.live.ensures ∙ sym (count_whole (filters_at t.filters) alive (λ fs l. refl) (values_of t.leases.entries)) in
    let past = c.live_past.ensures.count ∙ ap (count_by alive) (sym (past_is c.self.view_is)) in
    let seen = ap (count_by alive) (all_is c.self.view_is) in
    omega (arith, both, found, past, seen)
