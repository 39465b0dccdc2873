use Rattle.std.proofs.Common.{◌≤◌, ◌<◌, not, refl, sym, ap, ◌∙◌, subst, inl, arith}
use Rattle.std.specs.BTreeMap.{btree_map_len}
use Rattle.pcp_base.specs.declared.leases.MapLease.{MapLease}
use Rattle.ordered_index.specs.Aged.{Aged}
use Rattle.std.specs.Map.{values_of}
use Rattle.std.specs.Option.{option_map}
use Rattle.mapping_table.specs.Kept.{aged_maps, filters_at, whole}
use Rattle.mapping_table.specs.MapLists.{first_dead_map, is_live_map, LeavesMap}
use Rattle.mapping_table.proofs.Views.{found_is}
use Rattle.mapping_table.proofs.Wholes.{find_whole}
use Rattle.mapping_table.proofs.AgedMaps.{left_map, left_kept}
use Rattle.mapping_table.proofs.table.MapTable.retire.Goals as goal

pub invariant_of-self-2 : goal.invariant_of-self-2
invariant_of-self-2 g c =
    let t = c.self.inside in let new = c.leave.new in let n = c.in-Some.entry.0 in let l = c.in-Some.entry.1 in
    let older : t.gone ≤ c.max-self-inside.result = (let is = c.max-self-inside.ensures in omega (arith, is)) in
    let later : c.args.m ≤ c.max-self-inside.result = (let is = c.max-self-inside.ensures in let at = c.get.ensures.value in omega (arith, is, at)) in
    let few : btree_map_len t.past < 32768 = (let is = c.len.ensures.len in let less = c.if-len-ge-MOST_LEASES.false in omega (arith, is, less)) in
    left_kept t.leases new.leases t.filters new.filters t.past new.past n l c.in_ok-leave.ensures.ok t.gone c.self.invariant c.tell_order.ensures.ordered c.in-Some.ensures.there
    c.args.m c.max-self-inside.result c.in-Some.ensures.dead older later few (c.tell_order.ensures.below n l c.in-Some.ensures.there)

pub returns-clause-left : goal.returns-clause-left
returns-clause-left g c = λ is.
    let t = c.self.inside in let new = c.leave.new in
    subst (λ (v : Aged MapLease). LeavesMap c.args.m v (aged_maps new.leases new.filters new.past)) c.self.view_is
    (left_map t.leases new.leases t.filters new.filters t.past new.past c.in-Some.entry.0 c.in-Some.entry.1 c.in_ok-leave.ensures.ok t.gone c.self.invariant c.tell_order.ensures.ordered c.in-Some.ensures.there
    c.args.m c.in-Some.ensures.dead)

pub returns-in_default-clause-cause : goal.returns-in_default-clause-cause
returns-in_default-clause-cause g c = λ is.
    let m = c.args.m in let kept = filters_at c.self.inside.filters in
    inl (ap (first_dead_map m) (sym (found_is c.self.view_is)) ∙ find_whole kept (λ l. not (is_live_map m l)) (λ fs l. refl) (values_of c.self.inside.leases.entries)
    ∙ ap (option_map (whole kept)) c.in_default.ensures.none)
