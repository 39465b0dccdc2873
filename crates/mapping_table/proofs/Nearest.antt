-- The lease with the last key up to one, by an index.
use Rattle.std.proofs.Common.{◌≡◌, ℕ, Bool, true, false, Contains, Option, Some, None, IsSome, refl, sym, ap, ◌∙◌, subst}
use Rattle.std.specs.Ordering.{nat_cmp, is_gt}
use Rattle.std.specs.declared.cmp.Ordering.{Ordering}
use Rattle.std.specs.Cmp.{IsTotalOrder, nat_cmp_total}
use Rattle.std.specs.BTreeMap.{BTreeMap, get, values}
use Rattle.std.proofs.lemmas.Map.Lookups.{exact_unsigned}
use Rattle.pcp_base.specs.declared.leases.MapLease.{MapLease}
use Rattle.pcp_base.proofs.Members.{IsIn-from_Contains, Contains-from_IsIn, IsIn-map, map-IsIn}
use Rattle.ordered_index.specs.declared.numbered.Numbered.{Numbered}
use Rattle.ordered_index.specs.Orders.{Place, place_cmp, port_cmp, IsLast}
use Rattle.ordered_index.proofs.Entries.{entry_at}
use Rattle.ordered_index.proofs.EntryLaws.{none_some}
use Rattle.ordered_index.proofs.Keeping.{key-to, key-from, port-to, port-from}
use Rattle.ordered_index.proofs.Mirrorings.{at-entry}
use Rattle.ordered_index.proofs.OrderLaws.{flip, port_total, place_total}
use Rattle.mapping_table.specs.Kept.{place_of_lease, port_of_lease, map_keying, AreKeptMaps, IsNearest}
use Rattle.mapping_table.proofs.MapKeeping.{map_laws}

true_by : (b : Bool) → (b ≡ false → ⊥) → b ≡ true
true_by true h = refl
true_by false h = absurd (h refl)

module _ (it : Numbered MapLease Place (ℕ × ℕ)) (h : AreKeptMaps it) where
  -- each of the leases has a number
  pub numbered : (x : MapLease) → Contains (values it.leases) x → (n : ℕ) × (get nat_cmp it.leases n ≡ Some x)
  numbered x c =
      let r = IsIn-map (λ (z : ℕ × MapLease). z.1) it.leases.entries x (IsIn-from_Contains (values it.leases) x c) in
      (r.0.0, entry_at it.leases h.kept.ordered r.0.0 r.0.1 r.1 ∙ ap Some r.2)

  pub stands : (n : ℕ) (x : MapLease) → get nat_cmp it.leases n ≡ Some x → Contains (values it.leases) x
  stands n x a = Contains-from_IsIn (values it.leases) x (map-IsIn (λ (z : ℕ × MapLease). z.1) it.leases.entries (n, x) (at-entry nat_cmp_total exact_unsigned it.leases h.kept.ordered n x a))

  module _ {K : Type 0} {cmp : K → K → Ordering} (total : IsTotalOrder cmp) (key : MapLease → K) (index : BTreeMap K ℕ)
      (to : (n : ℕ) (x : MapLease) → get nat_cmp it.leases n ≡ Some x → get cmp index (key x) ≡ Some n)
      (from : (k : K) (n : ℕ) → get cmp index k ≡ Some n → (x : MapLease) × (get nat_cmp it.leases n ≡ Some x) × (key x ≡ k)) where
    none_nearest : (k : K) → IsLast cmp index k None → IsNearest cmp key k (values it.leases) None
    none_nearest k last = record {
      among = tt;
      up_to = tt;
      greatest = tt;
      none = λ x c. true_by (is_gt (cmp (key x) k)) (λ up.
          let n = numbered x c in none_some (get cmp index (key x)) n.0 (last (key x) up) (to n.0 x n.1));
    }

    is_nearest : (k : K) (n : ℕ) → IsLast cmp index k (Some n) → (o : Option MapLease) → o ≡ get nat_cmp it.leases n → IsNearest cmp key k (values it.leases) o
    is_nearest k n last o o_is =
        let l = from last.0 n last.1.found in
        subst (IsNearest cmp key k (values it.leases)) (sym (o_is ∙ l.1)) (record {
          among = stands n l.0 l.1;
          up_to = subst (λ (z : K). is_gt (cmp z k) ≡ false) (sym l.2) last.1.up_to;
          greatest = λ x c up. (let m = numbered x c in
              subst (λ (z : K). is_gt (cmp (key x) z) ≡ false) (sym l.2)
              (flip total last.0 (key x) (last.1.greatest (key x) up (subst IsSome (sym (to m.0 x m.1)) refl))));
          none = tt;
        })

  pub no_place_nearest : (k : Place) → IsLast place_cmp it.keys k None → IsNearest place_cmp place_of_lease k (values it.leases) None
  no_place_nearest = none_nearest place_total place_of_lease it.keys (key-to map_keying map_laws it h.kept) (key-from map_keying map_laws it h.kept)

  pub place_nearest : (k : Place) (n : ℕ) → IsLast place_cmp it.keys k (Some n) → (o : Option MapLease) → o ≡ get nat_cmp it.leases n → IsNearest place_cmp place_of_lease k (values it.leases) o
  place_nearest = is_nearest place_total place_of_lease it.keys (key-to map_keying map_laws it h.kept) (key-from map_keying map_laws it h.kept)

  pub no_port_nearest : (p : ℕ × ℕ) → IsLast port_cmp it.ports p None → IsNearest port_cmp port_of_lease p (values it.leases) None
  no_port_nearest = none_nearest port_total port_of_lease it.ports (port-to map_keying map_laws it h.kept) (port-from map_keying map_laws it h.kept)

  pub port_nearest : (p : ℕ × ℕ) (n : ℕ) → IsLast port_cmp it.ports p (Some n) → (o : Option MapLease) → o ≡ get nat_cmp it.leases n → IsNearest port_cmp port_of_lease p (values it.leases) o
  port_nearest = is_nearest port_total port_of_lease it.ports (port-to map_keying map_laws it h.kept) (port-from map_keying map_laws it h.kept)
