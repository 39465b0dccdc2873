-- Leases with the filters that are kept apart from them.
use Rattle.std.proofs.Common.{◌≡◌, ℕ, Bool, true, false, cond, not, List, [], ◌∷◌, map, length, find, filter, count_by, Option, Some, None, refl, sym, ap, ◌∙◌, subst}
use Rattle.std.specs.List.{AllByRecursion, filter_map, cons_option, list_any}
use Rattle.std.specs.Option.{option_map}
use Rattle.std.specs.BTreeMap.{BTreeMap, is_at}
use Rattle.std.proofs.lemmas.List.{length-map}
use Rattle.std.proofs.lemmas.List.Sums.{length-filter}
use Rattle.step_count.specs.Levels.{levels}
use Rattle.pcp_base.specs.declared.leases.Endpoint.{Endpoint}
use Rattle.pcp_base.specs.declared.leases.Filter.{Filter}
use Rattle.pcp_base.specs.declared.leases.MapLease.{MapLease}
use Rattle.pcp_base.specs.Tables.{EachTwo, IsMapLease, covers, first_endpoint, is_map_of}
use Rattle.pcp_base.proofs.Anys.{any-map}
use Rattle.pcp_base.proofs.Members.{IsIn-from_Contains, Contains-from_IsIn, All-weaker, All-both, All-kept, map-IsIn}
use Rattle.pcp_base.proofs.Same.{same_endpoint-Decides}
use Rattle.pcp_base.proofs.TableLemmas.{covers-first}
use Rattle.ordered_index.specs.Orders.{Place, place_of, place_cmp, place_total}
use Rattle.ordered_index.proofs.Entries.{false_by}
use Rattle.ordered_index.proofs.EntryLaws.{key-self}
use Rattle.ordered_index.proofs.OrderLaws.{at_exact, place_exact}
use Rattle.mapping_table.specs.Kept.{place_of_lease, with_filters, bare, filters_at, whole, WritesFilters}
use Rattle.mapping_table.specs.MapLists.{is_live_map, some_live_map, is_covered, with_map, IsDeadMap, IsNextCovered, AreSeparate}
use Rattle.mapping_table.proofs.MapKeeping.{map_tells}
use Rattle.mapping_table.proofs.Rooms.{told_written}
use Rattle.mapping_table.proofs.Separates.{cover_apart}

-- where the same filters are kept
pub whole_same : (old new : Place → List Filter) → ((q : Place) → new q ≡ old q) → (ls : List MapLease) → map (whole new) ls ≡ map (whole old) ls
whole_same old new same [] = refl
whole_same old new same (l ∷ ls) =
    ap (λ (fs : List Filter). with_filters fs l ∷ map (whole new) ls) (same (place_of_lease l)) ∙ ap (λ (xs : List MapLease). whole old l ∷ xs) (whole_same old new same ls)

module _ (kept : Place → List Filter) where
  -- a lease with its filters expires when it does without
  pub expiry_whole : (o : Option MapLease) → option_map (λ (l : MapLease). l.expiry) (option_map (whole kept) o) ≡ option_map (λ (l : MapLease). l.expiry) o
  expiry_whole None = refl
  expiry_whole (Some l) = refl

  -- a test that looks at no filters
  module _ (p : MapLease → Bool) (blind : (fs : List Filter) (l : MapLease) → p (with_filters fs l) ≡ p l) where
    find_step : (b : Bool) (l : MapLease) (ls : List MapLease) → find p (map (whole kept) ls) ≡ option_map (whole kept) (find p ls) →
        cond b (Some (whole kept l)) (find p (map (whole kept) ls)) ≡ option_map (whole kept) (cond b (Some l) (find p ls))
    find_step true l ls rest = refl
    find_step false l ls rest = rest

    pub find_whole : (ls : List MapLease) → find p (map (whole kept) ls) ≡ option_map (whole kept) (find p ls)
    find_whole [] = refl
    find_whole (l ∷ ls) =
        ap (λ b. cond b (Some (whole kept l)) (find p (map (whole kept) ls))) (blind (kept (place_of_lease l)) l) ∙ find_step (p l) l ls (find_whole ls)

    filter_step : (b : Bool) (l : MapLease) (ls : List MapLease) → filter p (map (whole kept) ls) ≡ map (whole kept) (filter p ls) →
        cond b (whole kept l ∷ filter p (map (whole kept) ls)) (filter p (map (whole kept) ls)) ≡ map (whole kept) (cond b (l ∷ filter p ls) (filter p ls))
    filter_step true l ls rest = ap (λ (xs : List MapLease). whole kept l ∷ xs) rest
    filter_step false l ls rest = rest

    pub filter_whole : (ls : List MapLease) → filter p (map (whole kept) ls) ≡ map (whole kept) (filter p ls)
    filter_whole [] = refl
    filter_whole (l ∷ ls) =
        ap (λ b. cond b (whole kept l ∷ filter p (map (whole kept) ls)) (filter p (map (whole kept) ls))) (blind (kept (place_of_lease l)) l) ∙ filter_step (p l) l ls (filter_whole ls)

    pub count_whole : (ls : List MapLease) → count_by p (map (whole kept) ls) ≡ count_by p ls
    count_whole ls = sym (length-filter p (map (whole kept) ls)) ∙ ap length (filter_whole ls) ∙ length-map (filter p ls) (whole kept) ∙ length-filter p ls

  pub some_live_whole : (m : ℕ) (o : Option MapLease) → some_live_map m (option_map (whole kept) o) ≡ some_live_map m o
  some_live_whole m None = refl
  some_live_whole m (Some l) = refl

  module _ (ls : List MapLease) where
    covered_whole : (e : Endpoint) (q : ℕ) → is_covered e (map (whole kept) ls) q ≡ is_covered e ls q
    covered_whole e q = any-map (λ l. covers l (record { address = e.address; protocol = e.protocol; port = q })) (whole kept) ls

    pub next_whole : (e : Endpoint) (end : ℕ) (r : Option ℕ) → IsNextCovered e end ls r → IsNextCovered e end (map (whole kept) ls) r
    next_whole e end None h = record { above = tt; below = tt; covered = tt; least = tt; none = λ q above below. covered_whole e q ∙ h.none q above below }
    next_whole e end (Some port) h = record {
      above = h.above;
      below = h.below;
      covered = covered_whole e port ∙ h.covered;
      least = λ q above below there. h.least q above below (sym (covered_whole e q) ∙ there);
      none = tt;
    }

    -- whether one has ended
    pub ended_whole : (m : ℕ) → list_any (λ l. not (is_live_map m l)) (map (whole kept) ls) ≡ list_any (λ l. not (is_live_map m l)) ls
    ended_whole m = any-map (λ l. not (is_live_map m l)) (whole kept) ls

    pub levels_whole : levels (length (map (whole kept) ls)) ≡ levels (length ls)
    levels_whole = ap levels (length-map ls (whole kept))

    pub dead_whole : (m : ℕ) (o : Option MapLease) → IsDeadMap m ls o → IsDeadMap m (map (whole kept) ls) (option_map (whole kept) o)
    dead_whole m None h = record { among = tt; dead = tt; none = find_whole (λ l. not (is_live_map m l)) (λ fs l. refl) ls ∙ ap (option_map (whole kept)) h.none }
    dead_whole m (Some l) h = record {
      among = Contains-from_IsIn (map (whole kept) ls) (whole kept l) (map-IsIn (whole kept) ls l (IsIn-from_Contains ls l h.among));
      dead = h.dead;
      none = tt;
    }

not_true : (b : Bool) → not b ≡ true → b ≡ false
not_true true h = sym h
not_true false h = refl

-- those that a filter by the key leaves have other keys
pub others_left : (e : Endpoint) (ls : List MapLease) → AllByRecursion (λ l. is_map_of e l ≡ false) (filter (λ l. not (is_map_of e l)) ls)
others_left e ls =
    All-weaker (λ l. not (is_map_of e l) ≡ true) (λ l. is_map_of e l ≡ false) (λ l. not_true (is_map_of e l)) (filter (λ l. not (is_map_of e l)) ls) (All-kept (λ l. not (is_map_of e l)) ls)

-- filters are written at the place of an endpoint
module _ (e : Endpoint) (k : Place) (k_is : k ≡ place_of e) (filters : List Filter) (old new : BTreeMap Place (List Filter)) (writes : WritesFilters old k filters new) where
  written : filters_at new (place_of e) ≡ filters
  written = told_written k filters old new writes (place_of e) ∙ ap (λ b. cond b filters (filters_at old (place_of e))) (ap (λ (p : Place). is_at (place_cmp p) (place_of e)) k_is ∙ key-self place_total (place_of e))

  pub other_at : (y : MapLease) → is_map_of e y ≡ false → filters_at new (place_of_lease y) ≡ filters_at old (place_of_lease y)
  other_at y other =
      let apart : is_at (place_cmp k) (place_of_lease y) ≡ false = false_by (is_at (place_cmp k) (place_of_lease y)) (λ at.
      let same : place_of_lease y ≡ place_of e = sym (at_exact place_exact k (place_of_lease y) at) ∙ k_is in
      let both : true ≡ false = sym ((map_tells e).from y same) ∙ other in cc) in
      told_written k filters old new writes (place_of_lease y) ∙ ap (λ b. cond b filters (filters_at old (place_of_lease y))) apart

  others_same : (ls : List MapLease) → AllByRecursion (λ y. is_map_of e y ≡ false) ls → map (whole (filters_at new)) ls ≡ map (whole (filters_at old)) ls
  others_same [] all = refl
  others_same (l ∷ ls) all =
      ap (λ (fs : List Filter). with_filters fs l ∷ map (whole (filters_at new)) ls) (other_at l all.0) ∙ ap (λ (xs : List MapLease). whole (filters_at old) l ∷ xs) (others_same ls all.1)

  -- a lease is taken out
  pub removed_whole : (ls : List MapLease) → map (whole (filters_at new)) (filter (λ l. not (is_map_of e l)) ls) ≡ filter (λ l. not (is_map_of e l)) (map (whole (filters_at old)) ls)
  removed_whole ls =
      others_same (filter (λ l. not (is_map_of e l)) ls) (others_left e ls)
      ∙ sym (filter_whole (filters_at old) (λ l. not (is_map_of e l)) (λ fs l. refl) ls)

  -- after one with the key there is none
  none_after : (x : MapLease) (xs : List MapLease) → IsMapLease x → AllByRecursion IsMapLease xs → AllByRecursion (AreSeparate x) xs → is_map_of e x ≡ true → AllByRecursion (λ y. is_map_of e y ≡ false) xs
  none_after x xs is all apart has = All-weaker (λ y. IsMapLease y × AreSeparate x y) (λ y. is_map_of e y ≡ false) (λ y both. false_by (is_map_of e y) (λ t.
      cover_apart e x y both.1 (covers_key x is has) (covers_key y both.0 t))) xs (All-both IsMapLease (AreSeparate x) xs all apart)
    where
      covers_key : (l : MapLease) → IsMapLease l → is_map_of e l ≡ true → covers l e ≡ true
      covers_key l is has = subst (λ (z : Endpoint). covers l z ≡ true) ((same_endpoint-Decides (first_endpoint l) e).0 has) (covers-first l is.ports.some)

-- a lease is put
module _ (l : MapLease) (k : Place) (k_is : k ≡ place_of_lease l) (old new : BTreeMap Place (List Filter)) (writes : WritesFilters old k l.filters new) where
  itself : whole (filters_at new) (bare l) ≡ l
  itself = ap (λ (fs : List Filter). with_filters fs l) (written (first_endpoint l) k k_is l.filters old new writes)

  put_step : (x : MapLease) (xs : List MapLease) → AllByRecursion IsMapLease (x ∷ xs) → EachTwo AreSeparate (x ∷ xs)
      → map (whole (filters_at new)) (with_map (bare l) xs) ≡ with_map l (map (whole (filters_at old)) xs)
      → (b : Bool) → is_map_of (first_endpoint l) x ≡ b → map (whole (filters_at new)) (cond b (bare l ∷ xs) (x ∷ with_map (bare l) xs))
      ≡ cond b (l ∷ map (whole (filters_at old)) xs) (whole (filters_at old) x ∷ with_map l (map (whole (filters_at old)) xs))
  put_step x xs all apart rest true t =
      ap (λ (y : MapLease). y ∷ map (whole (filters_at new)) xs) itself
      ∙ ap (λ (ys : List MapLease). l ∷ ys) (others_same (first_endpoint l) k k_is l.filters old new writes xs
      (none_after (first_endpoint l) k k_is l.filters old new writes x xs all.0 all.1 apart.0 t))
  put_step x xs all apart rest false t =
      ap (λ (fs : List Filter). with_filters fs x ∷ map (whole (filters_at new)) (with_map (bare l) xs)) (other_at (first_endpoint l) k k_is l.filters old new writes x t)
      ∙ ap (λ (ys : List MapLease). whole (filters_at old) x ∷ ys) rest

  pub put_whole : (ls : List MapLease) → AllByRecursion IsMapLease ls → EachTwo AreSeparate ls → map (whole (filters_at new)) (with_map (bare l) ls) ≡ with_map l (map (whole (filters_at old)) ls)
  put_whole [] all apart = ap (λ (x : MapLease). x ∷ []) itself
  put_whole (x ∷ xs) all apart = put_step x xs all apart (put_whole xs all.1 apart.1) (is_map_of (first_endpoint l) x) refl
