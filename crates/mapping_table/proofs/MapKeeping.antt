-- MAP leases and their maps after a call.
use Rattle.std.proofs.Common.{◌≡◌, ℕ, true, false, not, Some, None, IsSome, Result, Ok, Err, OnOk, OnErr, sym, ap, ◌∙◌, subst}
use Rattle.std.specs.Ordering.{nat_cmp}
use Rattle.std.specs.BTreeMap.{get, values}
use Rattle.std.specs.Result.{IsErr}
use Rattle.pcp_base.specs.declared.leases.Endpoint.{Endpoint}
use Rattle.pcp_base.specs.declared.leases.MapLease.{MapLease}
use Rattle.pcp_base.specs.Tables.{first_endpoint, is_map_of}
use Rattle.pcp_base.proofs.Same.{same_endpoint-Decides}
use Rattle.ordered_index.specs.declared.numbered.Numbered.{Numbered}
use Rattle.ordered_index.specs.Orders.{Place, place_of, place_cmp, port_cmp}
use Rattle.ordered_index.specs.Steps.{Appends, Replaces, Forgets, Stays}
use Rattle.ordered_index.proofs.Keeping.{AreLaws, Tells, number-has, put-appended, put-replaced, taken-out, none-found, none-gone, put-either, same-values, same-kept}
use Rattle.ordered_index.proofs.OrderLaws.{port_total, port_exact, place_total, place_exact, place_of-one}
use Rattle.mapping_table.specs.Kept.{place_of_lease, port_of_lease, map_keying, AreKeptMaps}
use Rattle.mapping_table.specs.MapLists.{AreSoundMaps, with_map, PutsMap, RemovesMap}
use Rattle.mapping_table.proofs.Separates.{ports_apart}
use Rattle.mapping_table.proofs.Sounds.{AreSoundMaps-filter}

pub map_laws : AreLaws map_keying
map_laws = record { key_total = place_total; key_exact = place_exact; port_total = port_total; port_exact = port_exact }

-- a lease has a key where it has its place
pub map_tells : (e : Endpoint) → Tells map_keying (is_map_of e) (place_of e)
map_tells e = record {
  to = λ l t. ap place_of ((same_endpoint-Decides (first_endpoint l) e).0 t);
  from = λ l same. (same_endpoint-Decides (first_endpoint l) e).1 (place_of-one (first_endpoint l) e same);
}

module _ (it : Numbered MapLease Place (ℕ × ℕ)) (h : AreKeptMaps it) where
  module _ (l : MapLease) (sound : AreSoundMaps (with_map l (values it.leases))) where
    module _ {X E : Type 0} (new : Numbered MapLease Place (ℕ × ℕ)) (r : Result X E) where
      pub map_appended : (k : Place) (p : ℕ × ℕ) → k ≡ place_of_lease l → p ≡ port_of_lease l → get place_cmp it.keys (place_of_lease l) ≡ None →
          OnOk r ((n : ℕ) × Appends place_cmp port_cmp it new l k p n) → OnErr r (Stays it new) → AreKeptMaps new × PutsMap (values it.leases) l r (values new.leases)
      map_appended k p k_is p_is free ok err =
          let put = put-appended map_keying map_laws it h.kept new (is_map_of (first_endpoint l)) l (map_tells (first_endpoint l)) (ports_apart (with_map l (values it.leases)) sound) r k p k_is p_is free ok err in
          (record { sound = put-either AreSoundMaps (values it.leases) (with_map l (values it.leases)) (values new.leases) r put.ok put.err h.sound sound; kept = put.kept }, record { ok = put.ok; err = put.err })

      pub map_replaced : (n : ℕ) (x : MapLease) (from to : ℕ × ℕ) → get place_cmp it.keys (place_of_lease l) ≡ Some n → get nat_cmp it.leases n ≡ Some x → from ≡ port_of_lease x → to ≡ port_of_lease l →
          OnOk r (Replaces port_cmp it new n l from to) → OnErr r (Stays it new) → AreKeptMaps new × PutsMap (values it.leases) l r (values new.leases)
      map_replaced n x from to number at_n from_is to_is ok err =
          let put = put-replaced map_keying map_laws it h.kept new (is_map_of (first_endpoint l)) l (map_tells (first_endpoint l)) (ports_apart (with_map l (values it.leases)) sound) r n x from to number at_n from_is to_is ok err in
          (record { sound = put-either AreSoundMaps (values it.leases) (with_map l (values it.leases)) (values new.leases) r put.ok put.err h.sound sound; kept = put.kept }, record { ok = put.ok; err = put.err })

  -- where nothing changes
  module _ (new : Numbered MapLease Place (ℕ × ℕ)) (stays : Stays it new) where
    pub map_stays : AreKeptMaps new
    map_stays = record { sound = subst AreSoundMaps (sym (same-values map_keying map_laws it h.kept new stays)) h.sound; kept = same-kept map_keying map_laws it h.kept new stays }

    pub map_not_put : {X E : Type 0} (l : MapLease) (r : Result X E) → IsErr r → PutsMap (values it.leases) l r (values new.leases)
    map_not_put l (Ok v) failed = absurd (let no : false ≡ true = failed in cc)
    map_not_put l (Err e) failed = record { ok = tt; err = same-values map_keying map_laws it h.kept new stays }

  -- a number that stands under a place has a lease
  pub place_has : (k : Place) (n : ℕ) → get place_cmp it.keys k ≡ Some n → IsSome (get nat_cmp it.leases n)
  place_has = number-has map_keying map_laws it h.kept

  module _ (e : Endpoint) (k : Place) (k_is : k ≡ place_of e) where
    pub none_removed : get place_cmp it.keys k ≡ None → RemovesMap (values it.leases) e None (values it.leases)
    none_removed free =
        let here : get place_cmp it.keys (place_of e) ≡ None = ap (get place_cmp it.keys) (sym k_is) ∙ free in
        record {
          answer = none-found map_keying map_laws it h.kept (is_map_of e) (place_of e) (map_tells e) here;
          removed = none-gone map_keying map_laws it h.kept (is_map_of e) (place_of e) (map_tells e) here;
        }

    pub map_removed : (new : Numbered MapLease Place (ℕ × ℕ)) (p : ℕ × ℕ) (n : ℕ) (x : MapLease) → p ≡ port_of_lease x → get place_cmp it.keys k ≡ Some n → get nat_cmp it.leases n ≡ Some x →
        Forgets place_cmp port_cmp it new n k p → AreKeptMaps new × RemovesMap (values it.leases) e (Some x) (values new.leases)
    map_removed new p n x p_is number at_n forgets =
        let out = taken-out map_keying map_laws it h.kept new (is_map_of e) (place_of e) k p n x (map_tells e) k_is p_is number at_n forgets in
        (record { sound = subst AreSoundMaps (sym out.gone) (AreSoundMaps-filter (λ y. not (is_map_of e y)) (values it.leases) h.sound); kept = out.kept }, record { answer = out.found; removed = out.gone })
