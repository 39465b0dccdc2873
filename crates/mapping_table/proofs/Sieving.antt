-- What the sieve tells of the leases, after a call.
use Rattle.std.proofs.Common.{◌≡◌, ℕ, ◌+◌, ◌-◌, ◌<◌, ◌==◌, nat_lt, Bool, true, false, cond, List, [], length, find, count_by, slice_index, slice_set, Option, Some, None, refl, sym, ap, ◌∙◌, subst, arith}
use Rattle.std.specs.Ordering.{eq_by_cmp, nat_cmp}
use Rattle.std.specs.Cmp.{nat_cmp_total}
use Rattle.std.specs.Map.{remove_entry}
use Rattle.std.specs.BTreeMap.{get, is_at, values}
use Rattle.std.proofs.lemmas.Bool.{eqb-true, eqb-false, ltb-true, ltb-false}
use Rattle.std.proofs.lemmas.List.{length-set, get_or-set_same, get_or-set_other}
use Rattle.std.proofs.lemmas.Map.Lookups.{exact_unsigned}
use Rattle.pcp_base.specs.declared.leases.MapLease.{MapLease}
use Rattle.pcp_base.specs.Tables.{first_endpoint, is_map_of}
use Rattle.ordered_index.specs.declared.numbered.Numbered.{Numbered}
use Rattle.ordered_index.specs.MapSteps.{Removes}
use Rattle.ordered_index.specs.Steps.{Stays}
use Rattle.ordered_index.specs.Orders.{Place, place_cmp}
use Rattle.ordered_index.specs.Sieves.{bucket_of, one_more, one_less, no_places, with_place, without_place}
use Rattle.ordered_index.proofs.EntryLaws.{tally, count-some, two-counted, count-removed, key-self, none_by, some_one}
use Rattle.ordered_index.proofs.Endings.{count-values}
use Rattle.ordered_index.proofs.Keeping.{none-found, key-from, key-to, key-found, same-values}
use Rattle.ordered_index.proofs.OrderLaws.{at_exact, place_exact, place_total}
use Rattle.ordered_index.proofs.Entries.{same_number}
use Rattle.ordered_index.proofs.Mirrorings.{at-entry}
use Rattle.ordered_index.proofs.PlaceCounts.{bucket_of-below, no_places-none}
use Rattle.mapping_table.specs.Kept.{place_of_lease, map_keying, falls_on, AreKeptMaps, SievesMaps}
use Rattle.mapping_table.specs.MapLists.{with_map}
use Rattle.mapping_table.proofs.MapKeeping.{map_laws, map_tells}
use Rattle.ordered_index.proofs.PutCounts.{tally_found, count-put}

-- what a number has after another was set
set_step : (counts : List ℕ) (s n bucket : ℕ) → s < length counts → (b : Bool) → (s == bucket) ≡ b → slice_index (slice_set counts s n) bucket ≡ cond b n (slice_index counts bucket)
set_step counts s n bucket within true same = ap (slice_index (slice_set counts s n)) (sym (eqb-true s bucket same)) ∙ get_or-set_same counts s n 0 within
set_step counts s n bucket within false other = get_or-set_other counts s bucket n 0 (λ e. eqb-false s bucket other (sym e))

-- the number itself, where it is that which was set
at_step : (f : ℕ → ℕ) (counts : List ℕ) (s bucket : ℕ) (b : Bool) → (s == bucket) ≡ b → cond b (f (slice_index counts s)) (slice_index counts bucket) ≡ cond b (f (slice_index counts bucket)) (slice_index counts bucket)
at_step f counts s bucket true same = ap (λ i. f (slice_index counts i)) (eqb-true s bucket same)
at_step f counts s bucket false other = refl

more_step : (b : Bool) (x y old new : ℕ) → y ≡ cond b (one_more x) x → (x < 255 → x ≡ old) → new ≡ old + tally b → y < 255 → y ≡ new
more_step true x y old new y_is h new_is small = let is = h (omega (arith, y_is, small)) in omega (arith, y_is, is, new_is, small)
more_step false x y old new y_is h new_is small = let is = h (omega (arith, y_is, small)) in omega (arith, y_is, is, new_is)

less_cases : (b : Bool) (x y old new : ℕ) → nat_lt x 255 ≡ b → y ≡ cond b (x - 1) x → (x < 255 → x ≡ old) → new + 1 ≡ old → y < 255 → y ≡ new
less_cases true x y old new t y_is h new_is small = let is = h (ltb-true x 255 t) in omega (arith, y_is, is, new_is)
less_cases false x y old new t y_is h new_is small = let big = ltb-false x 255 t in absurd (omega (arith, y_is, big, small))

less_step : (b : Bool) (x y old new : ℕ) → y ≡ cond b (one_less x) x → (x < 255 → x ≡ old) → new + tally b ≡ old → y < 255 → y ≡ new
less_step true x y old new y_is h new_is small = less_cases (nat_lt x 255) x y old new refl y_is h new_is small
less_step false x y old new y_is h new_is small = let is = h (omega (arith, y_is, small)) in omega (arith, y_is, is, new_is)

-- no place and no lease
pub sieved_blank : (sieve : List ℕ) (ls : List MapLease) → sieve ≡ no_places → ls ≡ [] → SievesMaps sieve ls
sieved_blank sieve ls sieve_is blank = subst (λ s. SievesMaps s ls) (sym sieve_is) (record {
  whole = refl;
  tells = λ bucket small. no_places-none bucket ∙ ap (count_by (falls_on bucket)) (sym blank);
})

module _ (sieve : List ℕ) (ls : List MapLease) (h : SievesMaps sieve ls) where
  within : (k : Place) → bucket_of k < length sieve
  within k = let below = bucket_of-below k in let whole = h.whole in omega (arith, below, whole)

  module _ (new : List MapLease) (l : MapLease) (put_is : new ≡ with_map l ls) where
    put_count : (bucket : ℕ) (o : Option MapLease) → find (is_map_of (first_endpoint l)) ls ≡ o → count_by (falls_on bucket) new + tally_found (falls_on bucket) o ≡ count_by (falls_on bucket) ls + tally (falls_on bucket l)
    put_count bucket o o_is =
        let count = count-put (falls_on bucket) (is_map_of (first_endpoint l)) l ls in
        let one : tally_found (falls_on bucket) (find (is_map_of (first_endpoint l)) ls) ≡ tally_found (falls_on bucket) o = ap (tally_found (falls_on bucket)) o_is in
        let same : count_by (falls_on bucket) new ≡ count_by (falls_on bucket) (with_map l ls) = ap (count_by (falls_on bucket)) put_is in
        omega (arith, count, one, same)

    -- one place more, where a lease is appended
    sieved_appended : find (is_map_of (first_endpoint l)) ls ≡ None → (k : Place) → k ≡ place_of_lease l → SievesMaps (with_place (bucket_of k) sieve) new
    sieved_appended free k k_is = subst (λ (p : Place). SievesMaps (with_place (bucket_of p) sieve) new) (sym k_is) (record {
      whole = length-set sieve (bucket_of (place_of_lease l)) (one_more (slice_index sieve (bucket_of (place_of_lease l)))) ∙ h.whole;
      tells = λ bucket small.
          let s = bucket_of (place_of_lease l) in
          let count = put_count bucket None free in
          more_step (s == bucket) (slice_index sieve bucket) (slice_index (with_place s sieve) bucket) (count_by (falls_on bucket) ls) (count_by (falls_on bucket) new)
          (set_step sieve s (one_more (slice_index sieve s)) bucket (within (place_of_lease l)) (s == bucket) refl ∙ at_step one_more sieve s bucket (s == bucket) refl)
          (h.tells bucket) (omega (arith, count)) small;
    })

    -- as many, where one is replaced
    sieved_replaced : (x : MapLease) → find (is_map_of (first_endpoint l)) ls ≡ Some x → place_of_lease x ≡ place_of_lease l → SievesMaps sieve new
    sieved_replaced x found same_place = record {
      whole = h.whole;
      tells = λ bucket small.
          let count = put_count bucket (Some x) found in
          let same : tally (falls_on bucket x) ≡ tally (falls_on bucket l) = ap (λ (p : Place). tally (bucket_of p == bucket)) same_place in
          let old = h.tells bucket small in
          omega (arith, count, same, old);
    }

module _ (it : Numbered MapLease Place (ℕ × ℕ)) (sieve : List ℕ) (h : SievesMaps sieve (values it.leases)) where
  -- a place that the sieve lacks is under no lease
  pub none_lacked : AreKeptMaps it → (k : Place) → (slice_index sieve (bucket_of k) == 0) ≡ true → get place_cmp it.keys k ≡ None
  none_lacked kept k lacks = none_by (get place_cmp it.keys k) (λ n found.
      let from = key-from map_keying map_laws it kept.kept k n found in
      let zero_there = eqb-true (slice_index sieve (bucket_of k)) 0 lacks in
      let on : falls_on (bucket_of k) from.0 ≡ true = ap (λ (p : Place). bucket_of p == bucket_of k) from.2 ∙ same_number (bucket_of k) in
      let some = count-some (λ (e : ℕ × MapLease). falls_on (bucket_of k) e.1) it.leases.entries (n, from.0) (at-entry nat_cmp_total exact_unsigned it.leases kept.kept.ordered n from.0 from.1) on in
      let all = count-values (falls_on (bucket_of k)) it.leases.entries in
      let told = h.tells (bucket_of k) (omega (arith, zero_there)) in
      omega (arith, zero_there, some, all, told))

  -- where one lease alone falls on a bucket, no other place that falls there is under a lease
  pub none_beside : AreKeptMaps it → (k : Place) (n : ℕ) (l : MapLease) → get nat_cmp it.leases n ≡ Some l → falls_on (bucket_of k) l ≡ true → (place_of_lease l ≡ k → ⊥) → slice_index sieve (bucket_of k) ≡ 1 → get place_cmp it.keys k ≡ None
  none_beside kept k n l at_n falls other one = none_by (get place_cmp it.keys k) (λ m found.
      let from = key-from map_keying map_laws it kept.kept k m found in
      let on : falls_on (bucket_of k) from.0 ≡ true = ap (λ (p : Place). bucket_of p == bucket_of k) from.2 ∙ same_number (bucket_of k) in
      let two = two-counted (λ (e : ℕ × MapLease). falls_on (bucket_of k) e.1) it.leases.entries (n, l) (m, from.0)
      (at-entry nat_cmp_total exact_unsigned it.leases kept.kept.ordered n l at_n) (at-entry nat_cmp_total exact_unsigned it.leases kept.kept.ordered m from.0 from.1)
      (λ same. other (ap (λ (e : ℕ × MapLease). place_of_lease e.1) same ∙ from.2)) falls on in
      let all = count-values (falls_on (bucket_of k)) it.leases.entries in
      let told = h.tells (bucket_of k) (omega (arith, one)) in
      omega (arith, one, two, all, told))

  -- the lease that is hinted at
  module _ (kept : AreKeptMaps it) (k held : Place) (n : ℕ) (entry : (l : MapLease) × (get nat_cmp it.leases n ≡ Some l) × (place_of_lease l ≡ held)) where
    pub hint-hits : eq_by_cmp place_cmp held k ≡ true → Some n ≡ get place_cmp it.keys k
    hint-hits same =
        sym (key-to map_keying map_laws it kept.kept n entry.0 entry.1)
        ∙ ap (get place_cmp it.keys) (entry.2 ∙ at_exact place_exact held k same)

    other_place : eq_by_cmp place_cmp held k ≡ false → place_of_lease entry.0 ≡ k → ⊥
    other_place other same =
        let self : eq_by_cmp place_cmp held k ≡ true = ap (λ (p : Place). eq_by_cmp place_cmp p k) (sym entry.2 ∙ same) ∙ key-self place_total k in
        let no : true ≡ false = sym self ∙ other in cc

    pub hint-alone : eq_by_cmp place_cmp held k ≡ false → slice_index sieve (bucket_of k) ≡ 1 → (bucket_of held == bucket_of k) ≡ true → None ≡ get place_cmp it.keys k
    hint-alone other one falls =
        sym (none_beside kept k n entry.0 entry.1 (ap (λ (p : Place). bucket_of p == bucket_of k) entry.2 ∙ falls) (other_place other) one)

  -- one place less, where a lease is taken out
  module _ (new : Numbered MapLease Place (ℕ × ℕ)) (n : ℕ) (x : MapLease) (at_n : get nat_cmp it.leases n ≡ Some x) where
    one_removed : Removes nat_cmp it.leases new.leases n → SievesMaps (without_place (bucket_of (place_of_lease x)) sieve) (values new.leases)
    one_removed removes = record {
      whole = length-set sieve (bucket_of (place_of_lease x)) (one_less (slice_index sieve (bucket_of (place_of_lease x)))) ∙ h.whole;
      tells = λ bucket small.
          let s = bucket_of (place_of_lease x) in
          let count = count-removed nat_cmp_total n (λ (e : ℕ × MapLease). falls_on bucket e.1) exact_unsigned x it.leases.entries at_n in
          let same : count_by (λ (e : ℕ × MapLease). falls_on bucket e.1) new.leases.entries ≡ count_by (λ (e : ℕ × MapLease). falls_on bucket e.1) (remove_entry (is_at (nat_cmp n)) it.leases.entries) =
          ap (count_by (λ (e : ℕ × MapLease). falls_on bucket e.1)) removes.entries in
          let after = count-values (falls_on bucket) new.leases.entries in
          let before = count-values (falls_on bucket) it.leases.entries in
          less_step (s == bucket) (slice_index sieve bucket) (slice_index (without_place s sieve) bucket) (count_by (falls_on bucket) (values it.leases)) (count_by (falls_on bucket) (values new.leases))
          (set_step sieve s (one_less (slice_index sieve s)) bucket (within sieve (values it.leases) h (place_of_lease x)) (s == bucket) refl ∙ at_step one_less sieve s bucket (s == bucket) refl)
          (h.tells bucket) (omega (arith, count, same, after, before)) small;
    }

    pub sieved_removed : AreKeptMaps it → Removes nat_cmp it.leases new.leases n → (k : Place) → get place_cmp it.keys k ≡ Some n → SievesMaps (without_place (bucket_of k) sieve) (values new.leases)
    sieved_removed kept removes k number =
        let from = key-from map_keying map_laws it kept.kept k n number in
        subst (λ (p : Place). SievesMaps (without_place (bucket_of p) sieve) (values new.leases)) (ap place_of_lease (some_one (get nat_cmp it.leases n) x from.0 at_n from.1) ∙ from.2) (one_removed removes)

module _ (it : Numbered MapLease Place (ℕ × ℕ)) (kept : AreKeptMaps it) (sieve : List ℕ) (h : SievesMaps sieve (values it.leases)) (new : Numbered MapLease Place (ℕ × ℕ)) where
  -- where nothing changes
  pub sieved_stays : Stays it new → SievesMaps sieve (values new.leases)
  sieved_stays stays = subst (SievesMaps sieve) (sym (same-values map_keying map_laws it kept.kept new stays)) h

  module _ (l : MapLease) (put_is : values new.leases ≡ with_map l (values it.leases)) where
    -- where its key had no number
    pub sieved_more : get place_cmp it.keys (place_of_lease l) ≡ None → (k : Place) → k ≡ place_of_lease l → SievesMaps (with_place (bucket_of k) sieve) (values new.leases)
    sieved_more free = sieved_appended sieve (values it.leases) h (values new.leases) l put_is
        (sym (none-found map_keying map_laws it kept.kept (is_map_of (first_endpoint l)) (place_of_lease l) (map_tells (first_endpoint l)) free))

    -- where its key has one
    pub sieved_as_many : (n : ℕ) → get place_cmp it.keys (place_of_lease l) ≡ Some n → SievesMaps sieve (values new.leases)
    sieved_as_many n number =
        let from = key-from map_keying map_laws it kept.kept (place_of_lease l) n number in
        sieved_replaced sieve (values it.leases) h (values new.leases) l put_is from.0
        (sym (key-found map_keying map_laws it kept.kept (is_map_of (first_endpoint l)) (place_of_lease l) n (map_tells (first_endpoint l)) number) ∙ from.1) from.2
