-- Leases are sound also without their filters
use Rattle.std.proofs.Common.{◌≡◌, Bool, true, false, cond, List, [], ◌∷◌, map, length, refl, sym, ap, ◌∙◌, subst, arith}
use Rattle.std.specs.List.{AllByRecursion}
use Rattle.std.proofs.lemmas.List.{length-map}
use Rattle.pcp_base.specs.declared.leases.Filter.{Filter}
use Rattle.pcp_base.specs.declared.leases.MapLease.{MapLease}
use Rattle.pcp_base.specs.Tables.{EachTwo, IsMapLease, first_endpoint, is_map_of}
use Rattle.pcp_base.proofs.Puts.{put_All}
use Rattle.ordered_index.specs.Orders.{Place}
use Rattle.mapping_table.specs.Kept.{bare, whole}
use Rattle.mapping_table.specs.MapLists.{AreSeparate, AreSoundMaps, with_map}

bare_lease : (l : MapLease) → IsMapLease l → IsMapLease (bare l)
bare_lease l h = record {
  ports = record { internal = h.ports.internal; external = h.ports.external; some = h.ports.some; few = h.ports.few; internal_end = h.ports.internal_end; external_end = h.ports.external_end };
  filters = record { few = omega arith; different = tt; prefixes = tt };
}

all_to : (x : MapLease) (ls : List MapLease) → AllByRecursion (AreSeparate x) ls → AllByRecursion (AreSeparate (bare x)) (map bare ls)
all_to x [] h = tt
all_to x (l ∷ ls) h = (record { inside = h.0.inside; outside = h.0.outside }, all_to x ls h.1)

each_to : (ls : List MapLease) → EachTwo AreSeparate ls → EachTwo AreSeparate (map bare ls)
each_to [] h = tt
each_to (l ∷ ls) h = (all_to l ls h.0, each_to ls h.1)

all_from : (x : MapLease) (ls : List MapLease) → AllByRecursion (AreSeparate (bare x)) (map bare ls) → AllByRecursion (AreSeparate x) ls
all_from x [] h = tt
all_from x (l ∷ ls) h = (record { inside = h.0.inside; outside = h.0.outside }, all_from x ls h.1)

each_from : (ls : List MapLease) → EachTwo AreSeparate (map bare ls) → EachTwo AreSeparate ls
each_from [] h = tt
each_from (l ∷ ls) h = (all_from l ls h.0, each_from ls h.1)

module _ (kept : Place → List Filter) (l : MapLease) where
  step : (b : Bool) (x : MapLease) (xs : List MapLease) → map bare (with_map l (map (whole kept) xs)) ≡ map bare (with_map (bare l) xs) → map bare (map (whole kept) xs) ≡ map bare xs →
      map bare (cond b (l ∷ map (whole kept) xs) (whole kept x ∷ with_map l (map (whole kept) xs))) ≡ map bare (cond b (bare l ∷ xs) (x ∷ with_map (bare l) xs))
  step true x xs rest same = ap (λ (ys : List MapLease). bare l ∷ ys) same
  step false x xs rest same = ap (λ (ys : List MapLease). bare x ∷ ys) rest

  bare_same : (ls : List MapLease) → map bare (map (whole kept) ls) ≡ map bare ls
  bare_same [] = refl
  bare_same (x ∷ xs) = ap (λ (ys : List MapLease). bare x ∷ ys) (bare_same xs)

  put_same : (ls : List MapLease) → map bare (with_map l (map (whole kept) ls)) ≡ map bare (with_map (bare l) ls)
  put_same [] = refl
  put_same (x ∷ xs) = step (is_map_of (first_endpoint l) x) x xs (put_same xs) (bare_same xs)

  put_is : (ls : List MapLease) → AllByRecursion IsMapLease (with_map l ls) → IsMapLease l
  put_is [] h = h.0
  put_is (x ∷ xs) h = elim (is_map_of (first_endpoint l) x) as (λ b. AllByRecursion IsMapLease (cond b (l ∷ xs) (x ∷ with_map l xs)) → IsMapLease l)
      [ true ↦ (λ all. all.0) | false ↦ (λ all. put_is xs all.1) ] h

  -- sound leases, of which one is put without its filters
  pub bare_put : (ls : List MapLease) → AreSoundMaps ls → AreSoundMaps (with_map l (map (whole kept) ls)) → AreSoundMaps (with_map (bare l) ls)
  bare_put ls before after =
      let long : length (with_map l (map (whole kept) ls)) ≡ length (with_map (bare l) ls) =
      sym (length-map (with_map l (map (whole kept) ls)) bare) ∙ ap length (put_same ls) ∙ length-map (with_map (bare l) ls) bare in
      record {
        leases = put_All IsMapLease (is_map_of (first_endpoint l)) (bare l) ls (bare_lease l (put_is (map (whole kept) ls) after.leases)) before.leases;
        separate = each_from (with_map (bare l) ls) (subst (EachTwo AreSeparate) (put_same ls) (each_to (with_map l (map (whole kept) ls)) after.separate));
        few = (let few = after.few in omega (arith, long, few));
      }
