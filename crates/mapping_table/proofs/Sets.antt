-- How many leases are sets of ports, after a call.
use Rattle.std.proofs.Common.{◌≡◌, ℕ, ◌+◌, ◌-◌, ◌≤◌, find, count_by, Option, Some, None, sym, ap, ◌∙◌, arith}
use Rattle.std.specs.Ordering.{nat_cmp}
use Rattle.std.specs.Cmp.{nat_cmp_total}
use Rattle.std.specs.Map.{remove_entry}
use Rattle.std.specs.BTreeMap.{get, is_at, values}
use Rattle.std.proofs.lemmas.Bool.{ltb-false}
use Rattle.std.proofs.lemmas.Map.Lookups.{exact_unsigned}
use Rattle.pcp_base.specs.declared.leases.MapLease.{MapLease}
use Rattle.pcp_base.specs.Tables.{first_endpoint, is_map_of}
use Rattle.ordered_index.specs.declared.numbered.Numbered.{Numbered}
use Rattle.ordered_index.specs.MapSteps.{Removes}
use Rattle.ordered_index.specs.Steps.{Stays}
use Rattle.ordered_index.specs.Orders.{Place, place_cmp}
use Rattle.ordered_index.proofs.EntryLaws.{count-some, count-removed}
use Rattle.ordered_index.proofs.Endings.{count-values}
use Rattle.ordered_index.proofs.Entries.{false_by}
use Rattle.ordered_index.proofs.Keeping.{none-found, key-found, same-values}
use Rattle.ordered_index.proofs.PutCounts.{tally_found, count-put}
use Rattle.ordered_index.proofs.Mirrorings.{at-entry}
use Rattle.mapping_table.specs.Kept.{place_of_lease, map_keying, is_set, sets_of, AreKeptMaps, AreCountedMaps}
use Rattle.mapping_table.specs.MapLists.{with_map}
use Rattle.mapping_table.proofs.MapKeeping.{map_laws, map_tells, map_stays}

module _ (it : Numbered MapLease Place (ℕ × ℕ)) (sets : ℕ) (h : AreCountedMaps it sets) where
  -- what has one port alone, where there is no set
  pub is_single : (n : ℕ) (l : MapLease) → sets ≡ 0 → get nat_cmp it.leases n ≡ Some l → l.count ≤ 1
  is_single n l none a = ltb-false 1 l.count (false_by (is_set l) (λ t.
      let some = count-some (λ (e : ℕ × MapLease). is_set e.1) it.leases.entries (n, l) (at-entry nat_cmp_total exact_unsigned it.leases h.kept.kept.ordered n l a) t in
      let all = count-values is_set it.leases.entries in
      let is = h.counted in
      omega (arith, some, all, is, none)))

  -- where nothing changes
  pub counted_stays : (new : Numbered MapLease Place (ℕ × ℕ)) → Stays it new → AreCountedMaps new sets
  counted_stays new stays = record {
    kept = map_stays it h.kept new stays;
    counted = h.counted ∙ ap (count_by is_set) (sym (same-values map_keying map_laws it h.kept.kept new stays));
  }

  module _ (new : Numbered MapLease Place (ℕ × ℕ)) (l : MapLease) where
    abbrev before : Option MapLease
    before = find (is_map_of (first_endpoint l)) (values it.leases)

    -- what is put comes in place of what was there
    counted_put : AreKeptMaps new → values new.leases ≡ with_map l (values it.leases) → (o : Option MapLease) → before ≡ o → (more : ℕ) → more + tally_found is_set o ≡ sets + sets_of l → AreCountedMaps new more
    counted_put kept put_is o before_is more all = record {
      kept = kept;
      counted = (
          let count = count-put is_set (is_map_of (first_endpoint l)) l (values it.leases) in
          let one : tally_found is_set before ≡ tally_found is_set o = ap (tally_found is_set) before_is in
          let same : count_by is_set (values new.leases) ≡ count_by is_set (with_map l (values it.leases)) = ap (count_by is_set) put_is in
          let is = h.counted in
          omega (arith, count, one, same, is, all)
          );
    }

    -- one set more, where a set is appended
    pub counted_appended : AreKeptMaps new → values new.leases ≡ with_map l (values it.leases) → get place_cmp it.keys (place_of_lease l) ≡ None → (n : ℕ) → n ≡ sets_of l → AreCountedMaps new (sets + n)
    counted_appended kept put_is free n n_is =
        counted_put kept put_is None (sym (none-found map_keying map_laws it h.kept.kept (is_map_of (first_endpoint l)) (place_of_lease l) (map_tells (first_endpoint l)) free))
        (sets + n) (omega (arith, n_is))

    module _ (k : ℕ) (x : MapLease) (number : get place_cmp it.keys (place_of_lease l) ≡ Some k) (at_k : get nat_cmp it.leases k ≡ Some x) where
      found : before ≡ Some x
      found = sym (key-found map_keying map_laws it h.kept.kept (is_map_of (first_endpoint l)) (place_of_lease l) k (map_tells (first_endpoint l)) number) ∙ at_k

      -- what is replaced was counted
      pub replaced_few : (n m : ℕ) → m ≡ sets_of x → m ≤ sets + n
      replaced_few n m m_is =
          let count = count-removed nat_cmp_total k (λ (e : ℕ × MapLease). is_set e.1) exact_unsigned x it.leases.entries at_k in
          let before = count-values is_set it.leases.entries in
          let is = h.counted in
          omega (arith, count, before, is, m_is)

      -- and one less, where a set is replaced
      pub counted_replaced : AreKeptMaps new → values new.leases ≡ with_map l (values it.leases) → (n m : ℕ) → n ≡ sets_of l → m ≡ sets_of x → AreCountedMaps new (sets + n - m)
      counted_replaced kept put_is n m n_is m_is =
          let few = replaced_few n m m_is in
          counted_put kept put_is (Some x) found (sets + n - m) (omega (arith, n_is, m_is, few))

  -- one set less, where a set is taken out
  module _ (new : Numbered MapLease Place (ℕ × ℕ)) (k : ℕ) (x : MapLease) (at_k : get nat_cmp it.leases k ≡ Some x) (n : ℕ) (n_is : n ≡ sets_of x) where
    pub removed_few : n ≤ sets
    removed_few =
        let count = count-removed nat_cmp_total k (λ (e : ℕ × MapLease). is_set e.1) exact_unsigned x it.leases.entries at_k in
        let before = count-values is_set it.leases.entries in
        let is = h.counted in
        omega (arith, count, before, is, n_is)

    pub counted_removed : AreKeptMaps new → Removes nat_cmp it.leases new.leases k → AreCountedMaps new (sets - n)
    counted_removed kept removes = record {
      kept = kept;
      counted = (
          let count = count-removed nat_cmp_total k (λ (e : ℕ × MapLease). is_set e.1) exact_unsigned x it.leases.entries at_k in
          let same : count_by (λ (e : ℕ × MapLease). is_set e.1) new.leases.entries ≡ count_by (λ (e : ℕ × MapLease). is_set e.1) (remove_entry (is_at (nat_cmp k)) it.leases.entries) =
          ap (count_by (λ (e : ℕ × MapLease). is_set e.1)) removes.entries in
          let after = count-values is_set new.leases.entries in
          let before = count-values is_set it.leases.entries in
          let is = h.counted in
          omega (arith, count, same, after, before, is, n_is)
          );
    }
