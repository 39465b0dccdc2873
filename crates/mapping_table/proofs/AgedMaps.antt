-- A table with the leases that have left it.
use Rattle.std.proofs.Common.{◌≡◌, ◌⊎◌, ℕ, ◌+◌, ◌<◌, ◌≤◌, ◌&&◌, Bool, true, false, cond, not, nat_lt, List, [], ◌∷◌, map, length, filter, find, count_by, Contains, Option, Some, None, IsSome, refl, sym, ap, ◌∙◌, subst, inl, inr, arith}
use Rattle.std.specs.Borrow.{Bor}
use Rattle.std.specs.Slice.Iter.{iter_rest, iter_steps}
use Rattle.std.proofs.lemmas.Iterator.{YieldsList}
use Rattle.std.proofs.lemmas.Iterator.Consumers.{YieldsList-from_shown}
use Rattle.std.specs.List.{AllByRecursion, filter_map, list_any}
use Rattle.std.specs.List.Sorted.{IsStrictlySortedBy}
use Rattle.std.specs.Map.{lookup, remove_entry, keys_of, values_of}
use Rattle.std.specs.Option.{option_map}
use Rattle.std.specs.Ordering.{nat_cmp}
use Rattle.std.specs.BTreeMap.{BTreeMap, IsOrdered, btree_map_len, get, insert_entry, is_at, values}
use Rattle.std.proofs.lemmas.Bool.{ltb-true, ltb-false}
use Rattle.std.proofs.lemmas.List.{length-map}
use Rattle.pcp_base.specs.declared.leases.Endpoint.{Endpoint}
use Rattle.pcp_base.specs.declared.leases.Filter.{Filter}
use Rattle.pcp_base.specs.declared.leases.MapLease.{MapLease}
use Rattle.pcp_base.specs.declared.leases.TheConstants.{MOST_LEASES}
use Rattle.pcp_base.specs.Tables.{first_endpoint, is_map_of}
use Rattle.pcp_base.proofs.Members.{IsIn, IsIn-from_Contains, Contains-from_IsIn, All-IsIn, All-from_IsIn, All-weaker, All-kept, map-IsIn, none-any}
use Rattle.ordered_index.specs.Aged.{Aged, AreApart, AreBoth, AreNumbersOf, AreTogether, entries_with, no_leases}
use Rattle.ordered_index.specs.Orders.{Place, place_of, place_cmp}
use Rattle.ordered_index.proofs.AgedLaws.{together, moved-values, inserted-values, inserted-length, apart-retired, apart-came, copied-mapped-passing, mapped-at, mapped-values, mapped-sorted, mapped-apart}
use Rattle.ordered_index.proofs.Endings.{one-among}
use Rattle.ordered_index.proofs.Entries.{false_by, number_self}
use Rattle.ordered_index.proofs.EntryLaws.{tally, count-cons, none_by, none_some}
use Rattle.mapping_table.specs.Kept.{BareLeases, Leaves, WritesFilters, AreAgedMaps, AreWholeMaps, AreOwnFilters, aged_maps, all_maps, filters_at, leases_in, live_with, place_of_lease, whole, whole_entries, with_filters}
use Rattle.mapping_table.specs.MapLists.{AreSoundMaps, LeavesMap, is_live_map}
use Rattle.mapping_table.proofs.Rooms.{own_blank, own_removed}
use Rattle.mapping_table.proofs.Sounds.{AreSoundMaps-filter}
use Rattle.mapping_table.proofs.Wholes.{other_at, others_left, removed_whole}

-- where the same filters are kept
pub entries_same : (old new : Place → List Filter) → ((q : Place) → new q ≡ old q) → (es : List (ℕ × MapLease)) → whole_entries new es ≡ whole_entries old es
entries_same old new same [] = refl
entries_same old new same (e ∷ es) =
    ap (λ (fs : List Filter). (e.0, with_filters fs e.1) ∷ whole_entries new es) (same (place_of_lease e.1)) ∙ ap (λ (xs : List (ℕ × MapLease)). (e.0, whole old e.1) ∷ xs) (entries_same old new same es)

-- without a number
module _ (kept : Place → List Filter) (test : ℕ → Bool) where
  removed_step : (b : Bool) (e : ℕ × MapLease) (es : List (ℕ × MapLease)) → remove_entry test (whole_entries kept es) ≡ whole_entries kept (remove_entry test es) →
      cond b (whole_entries kept es) ((e.0, whole kept e.1) ∷ remove_entry test (whole_entries kept es)) ≡ whole_entries kept (cond b es (e ∷ remove_entry test es))
  removed_step true e es rest = refl
  removed_step false e es rest = ap (λ (xs : List (ℕ × MapLease)). (e.0, whole kept e.1) ∷ xs) rest

  pub entries_removed : (es : List (ℕ × MapLease)) → remove_entry test (whole_entries kept es) ≡ whole_entries kept (remove_entry test es)
  entries_removed [] = refl
  entries_removed (e ∷ es) = removed_step (test e.0) e es (entries_removed es)

-- filters are written at the place of an endpoint, where no lease begins
module _ (e : Endpoint) (k : Place) (k_is : k ≡ place_of e) (filters : List Filter) (old new : BTreeMap Place (List Filter)) (writes : WritesFilters old k filters new) where
  pub entries_others : (es : List (ℕ × MapLease)) → AllByRecursion (λ l. is_map_of e l ≡ false) (values_of es) → whole_entries (filters_at new) es ≡ whole_entries (filters_at old) es
  entries_others [] others = refl
  entries_others (x ∷ es) others =
      ap (λ (fs : List Filter). (x.0, with_filters fs x.1) ∷ whole_entries (filters_at new) es) (other_at e k k_is filters old new writes x.1 others.0)
      ∙ ap (λ (xs : List (ℕ × MapLease)). (x.0, whole (filters_at old) x.1) ∷ xs) (entries_others es others.1)

-- all leases by those that are looked up and those that have left
module _ (it : BareLeases) (kept : BTreeMap Place (List Filter)) (past : BTreeMap ℕ MapLease) (ordered : IsOrdered nat_cmp (leases_in it)) (apart : AreApart (leases_in it) it.next past) where
  pub maps_together : AreTogether (aged_maps it kept past)
  maps_together =
      together (whole_entries (filters_at kept) it.entries) past.entries (mapped-sorted (whole (filters_at kept)) it.entries ordered) apart.ordered (mapped-apart (whole (filters_at kept)) it.entries past.entries apart.apart)
      (map (whole (filters_at kept)) (values_of it.entries)) (sym (mapped-values (whole (filters_at kept)) it.entries))

-- none of the numbers below the next one that were free has a lease
module _ (it it' : BareLeases) (kept kept' : BTreeMap Place (List Filter)) (past : BTreeMap ℕ MapLease) (gone : ℕ) (inv : AreAgedMaps it kept past gone) where
  pub aged_came : AreWholeMaps (values_of it'.entries) kept' → it.next ≤ it'.next → ((n : ℕ) → n < it.next → get nat_cmp (leases_in it) n ≡ None → get nat_cmp (leases_in it') n ≡ None) → AreAgedMaps it' kept' past gone
  aged_came whole next fresh = record {
    whole = whole;
    apart = apart-came (leases_in it) past it.next inv.apart (leases_in it') it'.next next fresh;
    few = inv.few;
    dead = inv.dead;
  }

  pub aged_went : AreWholeMaps (values_of it'.entries) kept' → it'.next ≡ it.next → ((n : ℕ) → get nat_cmp (leases_in it) n ≡ None → get nat_cmp (leases_in it') n ≡ None) → AreAgedMaps it' kept' past gone
  aged_went whole next fewer = aged_came whole (omega (arith, next)) (λ n below free. fewer n free)

  -- the same leases, with the same filters
  pub all_stay : it'.entries ≡ it.entries → ((q : Place) → filters_at kept' q ≡ filters_at kept q) → all_maps (filters_at kept') (leases_in it') past ≡ all_maps (filters_at kept) (leases_in it) past
  all_stay same filters =
      ap (λ (es : List (ℕ × MapLease)). values_of (entries_with past.entries es))
      (entries_same (filters_at kept) (filters_at kept') filters it'.entries ∙ ap (whole_entries (filters_at kept)) same)

-- a test that passes none of some leases
pub none-counted : (test : MapLease → Bool) (ls : List MapLease) → AllByRecursion (λ l. test l ≡ false) ls → count_by test ls ≡ 0
none-counted test [] none = refl
none-counted test (l ∷ ls) none =
    let all = count-cons test l ls in
    let one : tally (test l) ≡ 0 = ap tally none.0 in
    let rest = none-counted test ls none.1 in
    omega (arith, all, one, rest)

none-found : (test : MapLease → Bool) (ls : List MapLease) → AllByRecursion (λ l. test l ≡ false) ls → find test ls ≡ None
none-found test [] none = refl
none-found test (l ∷ ls) none = ap (λ b. cond b (Some l) (find test ls)) none.0 ∙ none-found test ls none.1

-- none is live from a moment on by which all expire
not_live : (m x gone : ℕ) → x ≤ gone → gone ≤ m → nat_lt m x ≡ false
not_live m x gone ends late = false_by (nat_lt m x) (λ live. let less = ltb-true m x live in absurd (omega (arith, ends, late, less)))

pub none-live : (m gone : ℕ) (ls : List MapLease) → AllByRecursion (λ l. l.expiry ≤ gone) ls → gone ≤ m → AllByRecursion (λ l. is_live_map m l ≡ false) ls
none-live m gone ls dead late = All-weaker (λ l. l.expiry ≤ gone) (λ l. is_live_map m l ≡ false) (λ l ends. not_live m l.expiry gone ends late) ls dead

none_both : (m : ℕ) (ls : List MapLease) → AllByRecursion (λ l. is_live_map m l ≡ false) ls → (test : MapLease → Bool) → AllByRecursion (λ l. (is_live_map m l && test l) ≡ false) ls
none_both m ls none test = All-weaker (λ l. is_live_map m l ≡ false) (λ l. (is_live_map m l && test l) ≡ false) (λ l dead. ap (λ b. b && test l) dead) ls none

pub none_any_live : (m : ℕ) (ls : List MapLease) → AllByRecursion (λ l. is_live_map m l ≡ false) ls → (test : MapLease → Bool) → list_any (λ l. is_live_map m l && test l) ls ≡ false
none_any_live m ls none test = none-any (λ l. is_live_map m l && test l) ls (none_both m ls none test)

pub none_found_live : (m : ℕ) (ls : List MapLease) → AllByRecursion (λ l. is_live_map m l ≡ false) ls → (test : MapLease → Bool) → find (λ l. is_live_map m l && test l) ls ≡ None
none_found_live m ls none test = none-found (λ l. is_live_map m l && test l) ls (none_both m ls none test)

-- a lease has left
module _ (it it' : BareLeases) (kept kept' : BTreeMap Place (List Filter)) (past past' : BTreeMap ℕ MapLease) (n : ℕ) (l : MapLease) (h : Leaves it kept past n l it' kept' past')
    (gone : ℕ) (inv : AreAgedMaps it kept past gone) (ordered : IsOrdered nat_cmp (leases_in it)) (there : get nat_cmp (leases_in it) n ≡ Some l) where
  left_entries : whole_entries (filters_at kept') it'.entries ≡ remove_entry (is_at (nat_cmp n)) (whole_entries (filters_at kept) it.entries)
  left_entries =
      entries_others (first_endpoint l) (place_of_lease l) refl [] kept kept' h.filters it'.entries
      (subst (AllByRecursion (λ x. is_map_of (first_endpoint l) x ≡ false)) (sym h.removed) (others_left (first_endpoint l) (values_of it.entries)))
      ∙ ap (whole_entries (filters_at kept)) h.leases.entries ∙ sym (entries_removed (filters_at kept) (is_at (nat_cmp n)) it.entries)

  left_all : all_maps (filters_at kept') (leases_in it') past' ≡ all_maps (filters_at kept) (leases_in it) past
  left_all =
      moved-values (whole_entries (filters_at kept) it.entries) past.entries (mapped-sorted (whole (filters_at kept)) it.entries ordered) inv.apart.ordered
      (mapped-apart (whole (filters_at kept)) it.entries past.entries inv.apart.apart) n (whole (filters_at kept) l)
      (mapped-at (whole (filters_at kept)) it.entries n ∙ ap (option_map (whole (filters_at kept))) there)
      (whole_entries (filters_at kept') it'.entries) past'.entries left_entries h.left.entries

  left_found : map (whole (filters_at kept')) (values_of it'.entries) ≡ filter (λ x. not (is_map_of (first_endpoint l) x)) (map (whole (filters_at kept)) (values_of it.entries))
  left_found = ap (map (whole (filters_at kept'))) h.removed ∙ removed_whole (first_endpoint l) (place_of_lease l) refl [] kept kept' h.filters (values_of it.entries)

  free : get nat_cmp past n ≡ None
  free = none_by (get nat_cmp past n) (λ y at. none_some (get nat_cmp (leases_in it) n) l (inv.apart.apart n (subst IsSome (sym at) refl)) there)

  left_more : length (values past') ≡ length (values past) + 1
  left_more = ap (λ (es : List (ℕ × MapLease)). length (values_of es)) h.left.entries ∙ inserted-length past.entries n (whole (filters_at kept) l) free

  left_among : Contains (values past') (whole (filters_at kept) l)
  left_among = one-among past' n (whole (filters_at kept) l) (h.left.changed n ∙ ap (λ b. cond b (Some (whole (filters_at kept) l)) (get nat_cmp past n)) (number_self n))

  left_past : (x : MapLease) → Contains (values past') x → Contains (values past) x ⊎ (x ≡ whole (filters_at kept) l)
  left_past x here = inserted-values past.entries n (whole (filters_at kept) l) x (subst (λ (es : List (ℕ × MapLease)). Contains (values_of es) x) h.left.entries here)

  pub left_map : (m : ℕ) → is_live_map m l ≡ false → LeavesMap m (aged_maps it kept past) (aged_maps it' kept' past')
  left_map m dead = record {
    lease = whole (filters_at kept) l;
    there = Contains-from_IsIn _ (whole (filters_at kept) l) (map-IsIn (whole (filters_at kept)) (values_of it.entries) l (IsIn-from_Contains (values_of it.entries) l (one-among (leases_in it) n l there)));
    dead = dead;
    found = left_found;
    past = left_past;
    among = left_among;
    all = left_all;
  }

  module _ (m gone' : ℕ) (dead : is_live_map m l ≡ false) (older : gone ≤ gone') (later : m ≤ gone') (few : btree_map_len past < MOST_LEASES) (below : n < it.next) where
    dead_step : (x : MapLease) → Contains (values past) x ⊎ (x ≡ whole (filters_at kept) l) → x.expiry ≤ gone'
    dead_step x (inl old) = let ends = All-IsIn (λ (y : MapLease). y.expiry ≤ gone) (values past) x inv.dead (IsIn-from_Contains (values past) x old) in omega (arith, ends, older)
    dead_step x (inr same) =
        let ends = ltb-false m l.expiry dead in
        let is : x.expiry ≡ l.expiry = ap (λ (y : MapLease). y.expiry) same in
        omega (arith, ends, is, later)

    pub left_kept : AreAgedMaps it' kept' past' gone'
    left_kept = record {
      whole = record {
        sound = subst AreSoundMaps (sym h.removed) (AreSoundMaps-filter (λ x. not (is_map_of (first_endpoint l) x)) (values_of it.entries) inv.whole.sound);
        filters = subst (AreOwnFilters kept') (sym h.removed) (own_removed kept (values_of it.entries) inv.whole.filters (first_endpoint l) (place_of_lease l) refl kept' h.filters);
      };
      apart = subst (λ next. AreApart (leases_in it') next past') (sym h.next) (apart-retired (leases_in it) past it.next inv.apart (leases_in it') past' n (whole (filters_at kept) l) h.leases h.left below);
      few = (
          let more = left_more in
          let new = length-map past'.entries (λ (e : ℕ × MapLease). e.1) in
          let old = length-map past.entries (λ (e : ℕ × MapLease). e.1) in
          omega (arith, more, new, old, few)
          );
      dead = All-from_IsIn (λ (x : MapLease). x.expiry ≤ gone') (values past') (λ x here. dead_step x (left_past x (Contains-from_IsIn (values past') x here)));
    }

abbrev aged_of : BTreeMap Place (List Filter) → (es past : List (ℕ × MapLease)) → Aged MapLease
aged_of kept es past = record {
  found = map (whole (filters_at kept)) (values_of es);
  past = values_of past;
  all = values_of (entries_with past (whole_entries (filters_at kept) es));
}

-- no lease
module _ (it : BareLeases) (kept : BTreeMap Place (List Filter)) (past : BTreeMap ℕ MapLease) (none : it.entries ≡ []) (none_past : past.entries ≡ []) where
  no_past : (n : ℕ) → IsSome (get nat_cmp past n) → ⊥
  no_past n some = let no : false ≡ true = subst (λ (es : List (ℕ × MapLease)). IsSome (lookup (is_at (nat_cmp n)) es)) none_past some in cc

  blank_ordered : IsOrdered nat_cmp past
  unfolding IsStrictlySortedBy
  blank_ordered = subst (λ (es : List (ℕ × MapLease)). IsStrictlySortedBy nat_cmp (keys_of es)) (sym none_past) tt

  pub aged_blank : kept.entries ≡ [] → (gone : ℕ) → AreAgedMaps it kept past gone
  aged_blank none_kept gone = record {
    whole = record {
      sound = subst (λ (es : List (ℕ × MapLease)). AreSoundMaps (values_of es)) (sym none) (record { leases = tt; separate = tt; few = omega arith });
      filters = own_blank kept (values_of it.entries) none_kept;
    };
    apart = record {
      ordered = blank_ordered;
      apart = λ n some. absurd (no_past n some);
      below = λ n some. absurd (no_past n some);
    };
    few = (let zero_long : length past.entries ≡ 0 = ap (λ (es : List (ℕ × MapLease)). length es) none_past in omega (arith, zero_long));
    dead = subst (λ (es : List (ℕ × MapLease)). AllByRecursion (λ (l : MapLease). l.expiry ≤ gone) (values_of es)) (sym none_past) tt;
  }

  pub view_blank : aged_maps it kept past ≡ no_leases
  view_blank = ap (λ (es : List (ℕ × MapLease)). aged_of kept es past.entries) none ∙ ap (λ (ps : List (ℕ × MapLease)). aged_of kept [] ps) none_past

-- what is looked up by the numbers of both, where it is live
module _ (kept : Place → List Filter) (leases past : BTreeMap ℕ MapLease) (both : AreBoth leases past) (numbers : List ℕ) (are : AreNumbersOf leases past numbers) where
  pub copied_live : (m : ℕ) → filter_map (live_with m kept leases past) numbers ≡ filter (is_live_map m) (all_maps kept leases past)
  unfolding live_with
  copied_live m = copied-mapped-passing leases past numbers both are (whole kept) (is_live_map m)

-- what an iterator over numbers yields
pub numbers_yield : {s : _} (xs : List ℕ) → iter_rest s ≡ xs → YieldsList iter_steps (λ (y : Bor ℕ). y.now) s xs
numbers_yield {s} xs rest = subst (YieldsList iter_steps (λ (y : Bor ℕ). y.now) s) rest (YieldsList-from_shown iter_steps (λ (y : Bor ℕ). y.now) iter_rest (λ t u h. h.0) (λ t x u h. h) s)

-- leases that have the same entries
module _ (it : BareLeases) (kept : BTreeMap Place (List Filter)) (past leases : BTreeMap ℕ MapLease) (same : leases.entries ≡ it.entries) where
  pub both_slots : IsOrdered nat_cmp (leases_in it) → AreApart (leases_in it) it.next past → AreBoth leases past
  both_slots ordered apart = record {
    ordered = subst (λ (es : List (ℕ × MapLease)). IsStrictlySortedBy nat_cmp (keys_of es)) (sym same) ordered;
    past_ordered = apart.ordered;
    apart = λ n some. ap (λ (es : List (ℕ × MapLease)). lookup (is_at (nat_cmp n)) es) same ∙ apart.apart n some;
  }

  pub all_slots : all_maps (filters_at kept) leases past ≡ all_maps (filters_at kept) (leases_in it) past
  all_slots = ap (λ (es : List (ℕ × MapLease)). values_of (entries_with past.entries (whole_entries (filters_at kept) es))) same
