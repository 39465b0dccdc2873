-- Entries with others among them: what is found there, what is counted, and what is listed.
use Rattle.std.specs.Prelude.{◌⊎◌, is_some, filter, filter_map}
use Rattle.std.proofs.Common.{◌≡◌, ℕ, suc, ◌+◌, ◌<◌, ◌≤◌, Bool, true, false, cond, List, [], ◌∷◌, length, map, Contains, count_by, Option, Some, None, IsSome, refl, sym, ap, ◌∙◌, subst, inl, inr, arith}
use Rattle.std.specs.List.{AllByRecursion, cons_option}
use Rattle.std.specs.List.Sorted.{IsStrictlySortedBy}
use Rattle.std.specs.Map.{remove_entry, keys_of, values_of}
use Rattle.std.specs.Option.{option_map}
use Rattle.std.specs.Ordering.{nat_cmp, is_eq, match_ordering}
use Rattle.std.specs.declared.cmp.Ordering.{Ordering}
use Rattle.std.specs.declared.cmp.Ordering.TheVariants.{Less, Equal, Greater}
use Rattle.std.specs.Cmp.{nat_cmp_total}
use Rattle.std.specs.BTreeMap.{BTreeMap, IsOrdered, get, is_at, insert_entry}
use Rattle.std_collections.specs.Layout.BTreeMap.{btree_map}
use Rattle.std.proofs.lemmas.Map.Keys.{sorted_head, sorted_tail}
use Rattle.std.proofs.lemmas.Map.Lookups.{btree_map_from_get, exact_unsigned}
use Rattle.std.proofs.lemmas.Map.Made.{lookup-map_values, keys_of-map_values}
use Rattle.std.proofs.lemmas.Map.Views.{btree_map_contains_key_iff}
use Rattle.pcp_base.proofs.Members.{IsIn, IsIn-from_Contains, Contains-from_IsIn, All-from_IsIn}
use Rattle.ordered_index.specs.Aged.{AreApart, AreBoth, AreNumbersOf, AreTogether, either, entries_with, passing}
use Rattle.ordered_index.specs.MapSteps.{Inserts, Removes}
use Rattle.ordered_index.proofs.Endings.{value-in}
use Rattle.ordered_index.proofs.Entries.{at, entry_at, number_same, number_self, value-entry}
use Rattle.ordered_index.proofs.EntryLaws.{tally, count-cons, count-inserted}
use Rattle.ordered_index.proofs.MapChanges.{at_sym, none_past, sorted_inserted, sorted_removed, changed_by, removed_by}
use Rattle.ordered_index.proofs.SlotNumbers.{same_sorted}

module _ {X : Type 0} where
  -- in the order of their numbers
  abbrev pub InOrder : List (ℕ × X) → Type 0
  InOrder es = IsStrictlySortedBy nat_cmp (keys_of es)

  -- what the second has isn't in the first
  abbrev pub HaveOtherNumbers : List (ℕ × X) → List (ℕ × X) → Type 0
  HaveOtherNumbers es past = (n : ℕ) → IsSome (at past n) → at es n ≡ None

  -- each with f at its value
  abbrev pub mapped : (X → X) → List (ℕ × X) → List (ℕ × X)
  mapped f es = map (λ e. (e.0, f e.1)) es

-- ---- one of two options
module _ {X : Type 0} where
  either_none : (o : Option X) → o ≡ either o None
  either_none None = refl
  either_none (Some x) = refl

  either_head : (b : Bool) (v : X) (o p w : Option X) → (b ≡ true → o ≡ None) → w ≡ either o p → cond b (Some v) w ≡ either o (cond b (Some v) p)
  either_head true v o p w free is = sym (ap (λ q. either q (Some v)) (free refl))
  either_head false v o p w free is = is

  either_moved : (b : Bool) (x : X) (o p : Option X) → (b ≡ true → o ≡ Some x) → either (cond b None o) (cond b (Some x) p) ≡ either o p
  either_moved true x o p there = sym (ap (λ q. either q p) (there refl))
  either_moved false x o p there = refl

  either_some : (o p : Option X) → IsSome o ⊎ IsSome p → IsSome (either o p)
  either_some None p (inl h) = absurd (let no : false ≡ true = h in cc)
  either_some None p (inr h) = h
  either_some (Some x) p h = refl

  some_either : (o p : Option X) → IsSome (either o p) → IsSome o ⊎ IsSome p
  some_either None p h = inr h
  some_either (Some x) p h = inl refl

  some_later : (b : Bool) (v : X) (o : Option X) → IsSome o → IsSome (cond b (Some v) o)
  some_later true v o h = refl
  some_later false v o h = h

  none_later : (b : Bool) (v : X) (o p : Option X) → (IsSome p → o ≡ None) → IsSome (cond b (Some v) p) → cond b None o ≡ None
  none_later true v o p apart h = refl
  none_later false v o p apart h = apart h

  below_later : (P : Type 0) (b : Bool) (v : X) (p : Option X) → (b ≡ true → P) → (IsSome p → P) → IsSome (cond b (Some v) p) → P
  below_later P true v p here other h = here refl
  below_later P false v p here other h = other h

  some_mapped : (f : X → X) (o : Option X) → is_some (option_map f o) ≡ is_some o
  some_mapped f None = refl
  some_mapped f (Some x) = refl

-- ---- entries, and one that is new among them
module _ {X : Type 0} (w : List (ℕ × X)) (k : ℕ) (v : X) where
  inserted_at : (n : ℕ) → at (insert_entry nat_cmp w k v) n ≡ cond (is_at (nat_cmp k) n) (Some v) (at w n)
  inserted_at n = changed_by nat_cmp_total k exact_unsigned v w n (is_at (nat_cmp k) n) refl

count_values : {X : Type 0} (test : X → Bool) (es : List (ℕ × X)) → count_by test (values_of es) ≡ count_by (λ e. test e.1) es
count_values test [] = refl
count_values test (e ∷ es) =
    count-cons test e.1 (values_of es) ∙ ap (λ n. tally (test e.1) + n) (count_values test es) ∙ sym (count-cons (λ (d : ℕ × _). test d.1) e es)

count_inserted : {X : Type 0} (test : X → Bool) (w : List (ℕ × X)) (k : ℕ) (v : X) → at w k ≡ None → count_by test (values_of (insert_entry nat_cmp w k v)) ≡ count_by test (values_of w) + tally (test v)
count_inserted test w k v free =
    count_values test (insert_entry nat_cmp w k v) ∙ count-inserted nat_cmp_total k (λ e. test e.1) v w free ∙ ap (λ n. n + tally (test v)) (sym (count_values test w))

module _ {X : Type 0} (test : X → Bool) (k : ℕ) (v : X) (fails : test v ≡ false) where
  filter_step : (e : ℕ × X) (es : List (ℕ × X)) (o : Ordering) → (at es k ≡ None → filter test (values_of (insert_entry nat_cmp es k v)) ≡ filter test (values_of es)) →
      cond (is_eq o) (Some e.1) (at es k) ≡ None →
      filter test (values_of (match_ordering o ((k, v) ∷ e ∷ es) ((e.0, v) ∷ es) (e ∷ insert_entry nat_cmp es k v))) ≡ filter test (values_of (e ∷ es))
  filter_step e es Less rest free = ap (λ t. cond t (v ∷ filter test (values_of (e ∷ es))) (filter test (values_of (e ∷ es)))) fails
  filter_step e es Equal rest free = absurd (let some : Some e.1 ≡ None = free in cc)
  filter_step e es Greater rest free = ap (λ l. cond (test e.1) (e.1 ∷ l) l) (rest free)

  filter_inserted : (w : List (ℕ × X)) → at w k ≡ None → filter test (values_of (insert_entry nat_cmp w k v)) ≡ filter test (values_of w)
  filter_inserted [] free = ap (λ t. cond t (v ∷ []) []) fails
  filter_inserted (e ∷ es) free = filter_step e es (nat_cmp k e.0) (filter_inserted es) free

module _ {X : Type 0} (n : ℕ) (x y : X) where
  values_step : (e : ℕ × X) (es : List (ℕ × X)) (o : Ordering) → (IsIn y (values_of (insert_entry nat_cmp es n x)) → IsIn y (values_of es) ⊎ (y ≡ x)) →
      IsIn y (values_of (match_ordering o ((n, x) ∷ e ∷ es) ((e.0, x) ∷ es) (e ∷ insert_entry nat_cmp es n x))) → IsIn y (values_of (e ∷ es)) ⊎ (y ≡ x)
  values_step e es Less rest (inl same) = inr (sym same)
  values_step e es Less rest (inr later) = inl later
  values_step e es Equal rest (inl same) = inr (sym same)
  values_step e es Equal rest (inr later) = inl (inr later)
  values_step e es Greater rest (inl same) = inl (inl same)
  values_step e es Greater rest (inr later) = elim (rest later) [
    | inl old ↦ inl (inr old)
    | inr new ↦ inr new
  ]

  inserted_values : (es : List (ℕ × X)) → IsIn y (values_of (insert_entry nat_cmp es n x)) → IsIn y (values_of es) ⊎ (y ≡ x)
  inserted_values [] (inl same) = inr (sym same)
  inserted_values [] (inr later) = absurd later
  inserted_values (e ∷ es) h = values_step e es (nat_cmp n e.0) (inserted_values es) h

-- ---- entries with others among them
module _ {X : Type 0} (es : List (ℕ × X)) where
  module _ (e : ℕ × X) (past : List (ℕ × X)) (apart : HaveOtherNumbers es (e ∷ past)) where
    tail_apart : HaveOtherNumbers es past
    tail_apart n some = apart n (some_later (is_at (nat_cmp n) e.0) e.1 (at past n) some)

    head_apart : at es e.0 ≡ None
    head_apart = apart e.0 (ap (λ t. is_some (cond t (Some e.1) (at past e.0))) (number_self e.0))

  with_at : (past : List (ℕ × X)) → HaveOtherNumbers es past → (n : ℕ) → at (entries_with past es) n ≡ either (at es n) (at past n)
  with_at [] apart n = either_none (at es n)
  with_at (e ∷ past) apart n =
      inserted_at (entries_with past es) e.0 e.1 n
      ∙ ap (λ t. cond t (Some e.1) (at (entries_with past es) n)) (sym (at_sym nat_cmp_total e.0 n))
      ∙ either_head (is_at (nat_cmp n) e.0) e.1 (at es n) (at past n) (at (entries_with past es) n) (λ t. ap (at es) (number_same n e.0 t) ∙ head_apart e past apart)
      (with_at past (tail_apart e past apart) n)

  with_sorted : InOrder es → (past : List (ℕ × X)) → InOrder (entries_with past es)
  with_sorted sorted [] = sorted
  with_sorted sorted (e ∷ past) = sorted_inserted nat_cmp_total e.0 e.1 (entries_with past es) (with_sorted sorted past)

  -- the first of the others is new
  with_free : (e : ℕ × X) (past : List (ℕ × X)) → InOrder (e ∷ past) → HaveOtherNumbers es (e ∷ past) → at (entries_with past es) e.0 ≡ None
  with_free e past sorted apart =
      with_at past (tail_apart e past apart) e.0 ∙ ap (λ o. either o (at past e.0)) (head_apart e past apart)
      ∙ none_past nat_cmp_total e.0 past (sorted_head nat_cmp e.0 (keys_of past) sorted)

  with_count : (test : X → Bool) (past : List (ℕ × X)) → InOrder past → HaveOtherNumbers es past →
      count_by test (values_of (entries_with past es)) ≡ count_by test (values_of es) + count_by test (values_of past)
  with_count test [] sorted apart = omega arith
  with_count test (e ∷ past) sorted apart =
      let more = count_inserted test (entries_with past es) e.0 e.1 (with_free e past sorted apart) in
      let rest = with_count test past (sorted_tail nat_cmp e.0 (keys_of past) sorted) (tail_apart e past apart) in
      let head = count-cons test e.1 (values_of past) in
      omega (arith, more, rest, head)

  with_same : (test : X → Bool) (past : List (ℕ × X)) → InOrder past → HaveOtherNumbers es past → AllByRecursion (λ x. test x ≡ false) (values_of past) →
      filter test (values_of (entries_with past es)) ≡ filter test (values_of es)
  with_same test [] sorted apart fails = refl
  with_same test (e ∷ past) sorted apart fails =
      filter_inserted test e.0 e.1 fails.0 (entries_with past es) (with_free e past sorted apart)
      ∙ with_same test past (sorted_tail nat_cmp e.0 (keys_of past) sorted) (tail_apart e past apart) fails.1

  with_either : (past : List (ℕ × X)) (y : X) → IsIn y (values_of (entries_with past es)) → IsIn y (values_of es) ⊎ IsIn y (values_of past)
  with_either [] y there = inl there
  with_either (e ∷ past) y there = elim (inserted_values e.0 e.1 y (entries_with past es) there) [
    | inl old ↦ (elim (with_either past y old) [
      | inl here ↦ inl here
      | inr left ↦ inr (inr left)
    ])
    | inr new ↦ inr (inl (sym new))
  ]

-- ordered entries where the same is found at each number
same_found : {X : Type 0} (es fs : List (ℕ × X)) → InOrder es → InOrder fs → ((n : ℕ) → at es n ≡ at fs n) → es ≡ fs
same_found es fs sorted sorted' same = btree_map_from_get nat_cmp_total (btree_map es (inl tt)) (btree_map fs (inl tt)) sorted sorted' same exact_unsigned

module _ {X : Type 0} (es past : List (ℕ × X)) (sorted : InOrder es) (past_sorted : InOrder past) (apart : HaveOtherNumbers es past) where
  pub with-at : (n : ℕ) → at (entries_with past es) n ≡ either (at es n) (at past n)
  with-at = with_at es past apart

  pub with-sorted : InOrder (entries_with past es)
  with-sorted = with_sorted es sorted past

  pub with-count : (test : X → Bool) → count_by test (values_of (entries_with past es)) ≡ count_by test (values_of es) + count_by test (values_of past)
  with-count test = with_count es test past past_sorted apart

  pub with-same : (test : X → Bool) → AllByRecursion (λ x. test x ≡ false) (values_of past) → filter test (values_of (entries_with past es)) ≡ filter test (values_of es)
  with-same test = with_same es test past past_sorted apart

  -- what has a number in one of both has it among all
  stands_with : (n : ℕ) (x : X) → either (at es n) (at past n) ≡ Some x → Contains (values_of (entries_with past es)) x
  stands_with n x is = Contains-from_IsIn (values_of (entries_with past es)) x (value-in (entries_with past es) n x (with-at n ∙ is))

  of_found : (x : X) → Contains (values_of es) x → Contains (values_of (entries_with past es)) x
  of_found x there =
      let e = value-entry es x (IsIn-from_Contains (values_of es) x there) in
      stands_with e.0 x (ap (λ o. either o (at past e.0)) (entry_at (btree_map es (inl tt)) sorted e.0 x e.1))

  of_past : (x : X) → Contains (values_of past) x → Contains (values_of (entries_with past es)) x
  of_past x there =
      let e = value-entry past x (IsIn-from_Contains (values_of past) x there) in
      let here : at past e.0 ≡ Some x = entry_at (btree_map past (inl tt)) past_sorted e.0 x e.1 in
      stands_with e.0 x (ap (λ o. either o (at past e.0)) (apart e.0 (subst IsSome (sym here) refl)) ∙ here)

  pub together : (found : List X) → found ≡ values_of es → AreTogether (record { found = found; past = values_of past; all = values_of (entries_with past es) })
  together found is = record {
    of_all = λ x there. elim (with_either es past x (IsIn-from_Contains (values_of (entries_with past es)) x there)) [
      | inl old ↦ inl (subst (λ (xs : List X). Contains xs x) (sym is) (Contains-from_IsIn (values_of es) x old))
      | inr left ↦ inr (Contains-from_IsIn (values_of past) x left)
    ];
    of_found = λ x there. of_found x (subst (λ (xs : List X). Contains xs x) is there);
    of_past = of_past;
    same = λ test fails. with-same test fails ∙ ap (filter test) (sym is);
    counted = λ test. with-count test ∙ ap (λ (xs : List X). count_by test xs + count_by test (values_of past)) (sym is);
  }

  -- one goes from those that are looked up to those that have left
  module _ (n : ℕ) (x : X) (there : at es n ≡ Some x) where
    abbrev left : List (ℕ × X)
    left = remove_entry (is_at (nat_cmp n)) es

    abbrev more : List (ℕ × X)
    more = insert_entry nat_cmp past n x

    left_at : (m : ℕ) → at left m ≡ cond (is_at (nat_cmp n) m) None (at es m)
    left_at m = removed_by nat_cmp_total n exact_unsigned es sorted m (is_at (nat_cmp n) m) refl

    moved_apart : HaveOtherNumbers left more
    moved_apart m some = left_at m ∙ none_later (is_at (nat_cmp n) m) x (at es m) (at past m) (apart m) (subst IsSome (inserted_at past n x m) some)

    moved_at : (m : ℕ) → at (entries_with more left) m ≡ at (entries_with past es) m
    moved_at m =
        with_at left more moved_apart m ∙ ap (λ o. either o (at more m)) (left_at m) ∙ ap (either (cond (is_at (nat_cmp n) m) None (at es m))) (inserted_at past n x m)
        ∙ either_moved (is_at (nat_cmp n) m) x (at es m) (at past m) (λ t. ap (at es) (sym (number_same n m t)) ∙ there) ∙ sym (with-at m)

    moved_all : entries_with more left ≡ entries_with past es
    moved_all = same_found (entries_with more left) (entries_with past es) (with_sorted left (sorted_removed nat_cmp_total n es sorted) more) with-sorted moved_at

    module _ (es' past' : List (ℕ × X)) (gone : es' ≡ remove_entry (is_at (nat_cmp n)) es) (come : past' ≡ insert_entry nat_cmp past n x) where
      pub moved : entries_with past' es' ≡ entries_with past es
      moved = ap (entries_with past') gone ∙ ap (λ (p : List (ℕ × X)). entries_with p left) come ∙ moved_all

      pub moved-values : values_of (entries_with past' es') ≡ values_of (entries_with past es)
      moved-values = ap values_of moved

module _ {X : Type 0} (n : ℕ) (x : X) where
  length_step : (e : ℕ × X) (es : List (ℕ × X)) (o : Ordering) → (at es n ≡ None → length (values_of (insert_entry nat_cmp es n x)) ≡ length (values_of es) + 1) →
      cond (is_eq o) (Some e.1) (at es n) ≡ None →
      length (values_of (match_ordering o ((n, x) ∷ e ∷ es) ((e.0, x) ∷ es) (e ∷ insert_entry nat_cmp es n x))) ≡ suc (length (values_of es)) + 1
  length_step e es Less rest free = omega arith
  length_step e es Equal rest free = absurd (let some : Some e.1 ≡ None = free in cc)
  length_step e es Greater rest free = let more = rest free in omega (arith, more)

  inserted_length : (es : List (ℕ × X)) → at es n ≡ None → length (values_of (insert_entry nat_cmp es n x)) ≡ length (values_of es) + 1
  inserted_length [] free = omega arith
  inserted_length (e ∷ es) free = length_step e es (nat_cmp n e.0) (inserted_length es) free

module _ {X : Type 0} (past : List (ℕ × X)) (n : ℕ) (x : X) where
  pub inserted-values : (y : X) → Contains (values_of (insert_entry nat_cmp past n x)) y → Contains (values_of past) y ⊎ (y ≡ x)
  inserted-values y there = elim (inserted_values n x y past (IsIn-from_Contains (values_of (insert_entry nat_cmp past n x)) y there)) [
    | inl old ↦ inl (Contains-from_IsIn (values_of past) y old)
    | inr new ↦ inr new
  ]

  pub inserted-length : at past n ≡ None → length (values_of (insert_entry nat_cmp past n x)) ≡ length (values_of past) + 1
  inserted-length = inserted_length n x past

module _ {X : Type 0} (leases past : BTreeMap ℕ X) (next : ℕ) (are : AreApart leases next past) where
  -- the value that comes may be another than the one that goes
  pub apart-retired : (leases' past' : BTreeMap ℕ X) (n : ℕ) (x : X) → Removes nat_cmp leases leases' n → Inserts nat_cmp past past' n x → n < next → AreApart leases' next past'
  apart-retired leases' past' n x removes inserts low = record {
    ordered = inserts.ordered;
    apart = λ m some. removes.changed m
        ∙ none_later (is_at (nat_cmp n) m) x (get nat_cmp leases m) (get nat_cmp past m) (are.apart m) (subst IsSome (inserts.changed m) some);
    below = λ m some. below_later (m < next) (is_at (nat_cmp n) m) x (get nat_cmp past m) (λ t. subst (λ (k : ℕ). k < next) (number_same n m t) low) (are.below m)
        (subst IsSome (inserts.changed m) some);
  }

  pub apart-came : (leases' : BTreeMap ℕ X) (next' : ℕ) → next ≤ next' → ((n : ℕ) → n < next → get nat_cmp leases n ≡ None → get nat_cmp leases' n ≡ None) → AreApart leases' next' past
  apart-came leases' next' more keeps = record {
    ordered = are.ordered;
    apart = λ n some. keeps n (are.below n some) (are.apart n some);
    below = λ n some. let low = are.below n some in omega (arith, low, more);
  }

  pub apart-went : (leases' : BTreeMap ℕ X) → ((n : ℕ) → get nat_cmp leases n ≡ None → get nat_cmp leases' n ≡ None) → AreApart leases' next past
  apart-went leases' keeps = record {
    ordered = are.ordered;
    apart = λ n some. keeps n (are.apart n some);
    below = are.below;
  }

  -- the first of those that have left is forgotten
  pub apart-popped : (past' : BTreeMap ℕ X) (e : ℕ × X) → past.entries ≡ e ∷ past'.entries → AreApart leases next past'
  apart-popped past' e is =
      let was : (n : ℕ) → IsSome (get nat_cmp past' n) → IsSome (get nat_cmp past n) =
      λ n some. subst (λ (es : List (ℕ × X)). IsSome (at es n)) (sym is) (some_later (is_at (nat_cmp n) e.0) e.1 (at past'.entries n) some) in
      record {
        ordered = sorted_tail nat_cmp e.0 (keys_of past'.entries) (subst (λ (es : List (ℕ × X)). InOrder es) is are.ordered);
        apart = λ n some. are.apart n (was n some);
        below = λ n some. are.below n (was n some);
      }

  pub apart-both : IsOrdered nat_cmp leases → AreBoth leases past
  apart-both ordered = record { ordered = ordered; past_ordered = are.ordered; apart = are.apart }

-- entries of which each value went through f
module _ {X : Type 0} (f : X → X) where
  mapped_values : (es : List (ℕ × X)) → values_of (mapped f es) ≡ map f (values_of es)
  mapped_values [] = refl
  mapped_values (e ∷ es) = ap (λ l. f e.1 ∷ l) (mapped_values es)

  module _ (es : List (ℕ × X)) where
    pub mapped-at : (n : ℕ) → at (mapped f es) n ≡ option_map f (at es n)
    mapped-at n = lookup-map_values f (is_at (nat_cmp n)) es

    pub mapped-keys : keys_of (mapped f es) ≡ keys_of es
    mapped-keys = keys_of-map_values f es

    pub mapped-values : values_of (mapped f es) ≡ map f (values_of es)
    mapped-values = mapped_values es

    pub mapped-sorted : InOrder es → InOrder (mapped f es)
    mapped-sorted sorted = subst (IsStrictlySortedBy nat_cmp) (sym mapped-keys) sorted

    pub mapped-apart : (past : List (ℕ × X)) → HaveOtherNumbers es past → HaveOtherNumbers (mapped f es) past
    mapped-apart past apart n some = mapped-at n ∙ ap (option_map f) (apart n some)

-- ---- what is looked up by the numbers of both
module _ {X : Type 0} (h : ℕ → Option X) where
  listed : (w : List (ℕ × X)) → AllByRecursion (λ e. h e.0 ≡ Some e.1) w → filter_map h (keys_of w) ≡ values_of w
  listed [] all = refl
  listed (e ∷ w) all = ap (λ o. cons_option o (filter_map h (keys_of w))) all.0 ∙ ap (λ l. e.1 ∷ l) (listed w all.1)

  module _ (test : X → Bool) where
    passing_step : (x : X) (l : List X) (b : Bool) → cons_option (cond b (Some x) None) l ≡ cond b (x ∷ l) l
    passing_step x l true = refl
    passing_step x l false = refl

    listed_passing : (w : List (ℕ × X)) → AllByRecursion (λ e. h e.0 ≡ Some e.1) w → filter_map (λ n. passing test (h n)) (keys_of w) ≡ filter test (values_of w)
    listed_passing [] all = refl
    listed_passing (e ∷ w) all =
        ap (λ o. cons_option (passing test o) (filter_map (λ n. passing test (h n)) (keys_of w))) all.0
        ∙ ap (cons_option (cond (test e.1) (Some e.1) None)) (listed_passing w all.1) ∙ passing_step e.1 (filter test (values_of w)) (test e.1)

  -- where h is what is found in entries, and the numbers are theirs
  module _ (w : List (ℕ × X)) (sorted : InOrder w) (found : (n : ℕ) → at w n ≡ h n) (numbers : List ℕ) (ns_sorted : IsStrictlySortedBy nat_cmp numbers)
      (there : (n : ℕ) → Contains numbers n → IsSome (h n)) (back : (n : ℕ) → IsSome (h n) → Contains numbers n) where
    abbrev map_of : BTreeMap ℕ X
    map_of = btree_map w (inl tt)

    numbers_are : numbers ≡ keys_of w
    numbers_are = same_sorted numbers (keys_of w) ns_sorted sorted
        (λ n i. (btree_map_contains_key_iff nat_cmp_total exact_unsigned map_of n).0 (subst IsSome (sym (found n)) (there n i)))
        (λ n i. back n (subst IsSome (found n) ((btree_map_contains_key_iff nat_cmp_total exact_unsigned map_of n).1 i)))

    all_found : AllByRecursion (λ e. h e.0 ≡ Some e.1) w
    all_found = All-from_IsIn (λ e. h e.0 ≡ Some e.1) w (λ e i. sym (found e.0) ∙ entry_at map_of sorted e.0 e.1 i)

    copied_all : filter_map h numbers ≡ values_of w
    copied_all = ap (filter_map h) numbers_are ∙ listed w all_found

    copied_passing : (test : X → Bool) → filter_map (λ n. passing test (h n)) numbers ≡ filter test (values_of w)
    copied_passing test = ap (filter_map (λ n. passing test (h n))) numbers_are ∙ listed_passing test w all_found

-- what is looked up by the numbers of both is all, in order
module _ {X : Type 0} (leases past : BTreeMap ℕ X) (numbers : List ℕ) (both : AreBoth leases past) (are : AreNumbersOf leases past numbers) where
  abbrev found_at : ℕ → Option X
  found_at n = either (at leases.entries n) (at past.entries n)

  at_both : (n : ℕ) → at (entries_with past.entries leases.entries) n ≡ found_at n
  at_both = with_at leases.entries past.entries both.apart

  sorted_both : InOrder (entries_with past.entries leases.entries)
  sorted_both = with_sorted leases.entries both.ordered past.entries

  there : (n : ℕ) → Contains numbers n → IsSome (found_at n)
  there n i = either_some (at leases.entries n) (at past.entries n) (are.either n i)

  back : (n : ℕ) → IsSome (found_at n) → Contains numbers n
  back n some = elim (some_either (at leases.entries n) (at past.entries n) some) [
    | inl one ↦ are.of_leases n one
    | inr other ↦ are.of_past n other
  ]

  pub copied : filter_map (λ n. either (at leases.entries n) (at past.entries n)) numbers ≡ values_of (entries_with past.entries leases.entries)
  copied = copied_all found_at (entries_with past.entries leases.entries) sorted_both at_both numbers are.sorted there back

  pub copied-passing : (test : X → Bool) → filter_map (λ n. passing test (either (at leases.entries n) (at past.entries n))) numbers ≡ filter test (values_of (entries_with past.entries leases.entries))
  copied-passing = copied_passing found_at (entries_with past.entries leases.entries) sorted_both at_both numbers are.sorted there back

  module _ (f : X → X) where
    abbrev mapped_at : ℕ → Option X
    mapped_at n = either (option_map f (at leases.entries n)) (at past.entries n)

    at_mapped : (n : ℕ) → at (entries_with past.entries (mapped f leases.entries)) n ≡ mapped_at n
    at_mapped n =
        with_at (mapped f leases.entries) past.entries (mapped-apart f leases.entries past.entries both.apart) n
        ∙ ap (λ o. either o (at past.entries n)) (mapped-at f leases.entries n)

    sorted_mapped : InOrder (entries_with past.entries (mapped f leases.entries))
    sorted_mapped = with_sorted (mapped f leases.entries) (mapped-sorted f leases.entries both.ordered) past.entries

    there_mapped : (n : ℕ) → Contains numbers n → IsSome (mapped_at n)
    there_mapped n i = either_some (option_map f (at leases.entries n)) (at past.entries n) (elim (are.either n i) [
      | inl one ↦ inl (some_mapped f (at leases.entries n) ∙ one)
      | inr other ↦ inr other
    ])

    back_mapped : (n : ℕ) → IsSome (mapped_at n) → Contains numbers n
    back_mapped n some = elim (some_either (option_map f (at leases.entries n)) (at past.entries n) some) [
      | inl one ↦ are.of_leases n (sym (some_mapped f (at leases.entries n)) ∙ one)
      | inr other ↦ are.of_past n other
    ]

    pub copied-mapped : filter_map (λ n. either (option_map f (at leases.entries n)) (at past.entries n)) numbers ≡ values_of (entries_with past.entries (mapped f leases.entries))
    copied-mapped = copied_all mapped_at (entries_with past.entries (mapped f leases.entries)) sorted_mapped at_mapped numbers are.sorted there_mapped back_mapped

    pub copied-mapped-passing : (test : X → Bool) → filter_map (λ n. passing test (either (option_map f (at leases.entries n)) (at past.entries n))) numbers ≡ filter test (values_of (entries_with past.entries (mapped f leases.entries)))
    copied-mapped-passing = copied_passing mapped_at (entries_with past.entries (mapped f leases.entries)) sorted_mapped at_mapped numbers are.sorted there_mapped back_mapped
