use Rattle.std.specs.Map.{values_of}
use Rattle.std.proofs.Common.{List, Some, map, not, filter, refl, sym, ap, ◌∙◌, subst}
use Rattle.std.specs.Option.{option_map}
use Rattle.pcp_base.specs.Tables.{is_map_of}
use Rattle.pcp_base.specs.declared.leases.Filter.{Filter}
use Rattle.pcp_base.specs.declared.leases.MapLease.{MapLease}
use Rattle.mapping_table.specs.Kept.{filters_at, whole, WritesFilters, AreWholeMaps}
use Rattle.mapping_table.specs.MapLists.{map_with_key}
use Rattle.mapping_table.proofs.AgedMaps.{aged_went}
use Rattle.mapping_table.proofs.Rooms.{own_none, own_removed}
use Rattle.mapping_table.proofs.Sounds.{AreSoundMaps-filter}
use Rattle.mapping_table.proofs.Wholes.{find_whole, filter_whole, removed_whole}
use Rattle.mapping_table.proofs.Views.{found_is}
use Rattle.mapping_table.proofs.table.MapTable.remove.Goals as goal

pub invariant_of-self : goal.invariant_of-self
invariant_of-self g c =
    let e = c.args.key.now in let ls = (values_of c.self.inside.leases.entries) in let old = c.self.inside.filters in
    aged_went c.self.inside.leases c.remove.new.self old old c.self.inside.past c.self.inside.gone c.self.invariant
    (subst (λ (v : List MapLease). AreWholeMaps v old) (sym c.remove.ensures.removed.removed) (record {
      sound = AreSoundMaps-filter (λ l. not (is_map_of e l)) ls c.self.invariant.whole.sound;
      filters = own_none old ls c.self.invariant.whole.filters e (sym c.in_default.ensures.removed.answer);
    })) c.remove.ensures.next c.remove.ensures.fewer

pub returns-in_default-clause-removed : goal.returns-in_default-clause-removed
returns-in_default-clause-removed g c =
    let e = c.args.key.now in let ls = (values_of c.self.inside.leases.entries) in let kept = filters_at c.self.inside.filters in
    record {
      answer = ap (option_map (whole kept)) c.in_default.ensures.removed.answer ∙ sym (find_whole kept (is_map_of e) (λ fs l. refl) ls) ∙ ap (map_with_key e) (found_is c.self.view_is);
      removed = ap (map (whole kept)) c.remove.ensures.removed.removed ∙ sym (filter_whole kept (λ l. not (is_map_of e l)) (λ fs l. refl) ls) ∙ ap (filter (λ l. not (is_map_of e l))) (found_is c.self.view_is);
    }

pub invariant_of-self-2 : goal.invariant_of-self-2
invariant_of-self-2 g c =
    let e = c.args.key.now in let ls = (values_of c.self.inside.leases.entries) in let old = c.self.inside.filters in let new = c.write.new.filters in
    aged_went c.self.inside.leases c.remove.new.self old new c.self.inside.past c.self.inside.gone c.self.invariant
    (subst (λ (v : List MapLease). AreWholeMaps v new) (sym c.remove.ensures.removed.removed) (record {
      sound = AreSoundMaps-filter (λ l. not (is_map_of e l)) ls c.self.invariant.whole.sound;
      filters = own_removed old ls c.self.invariant.whole.filters e c.place_of.result c.place_of.ensures new (subst (λ (fs : List Filter). WritesFilters old c.place_of.result fs new) c.none.ensures c.write.ensures);
    })) c.remove.ensures.next c.remove.ensures.fewer

pub returns-clause-removed : goal.returns-clause-removed
returns-clause-removed g c =
    let e = c.args.key.now in let ls = (values_of c.self.inside.leases.entries) in let old = c.self.inside.filters in let new = c.write.new.filters in
    record {
      answer = ap Some c.whole-lease.ensures ∙ ap (option_map (whole (filters_at old))) c.in-Some.ensures.removed.answer
          ∙ sym (find_whole (filters_at old) (is_map_of e) (λ fs l. refl) ls) ∙ ap (map_with_key e) (found_is c.self.view_is);
      removed = ap (map (whole (filters_at new))) c.remove.ensures.removed.removed
          ∙ removed_whole e c.place_of.result c.place_of.ensures c.none.result old new c.write.ensures ls ∙ ap (filter (λ l. not (is_map_of e l))) (found_is c.self.view_is);
    }
