-- The numbers of all slots, sorted, are the numbers in order.
use Rattle.std.specs.Prelude.{⊤, is_some}
use Rattle.std.proofs.Common.{◌≡◌, ℕ, zero, suc, ◌+◌, ◌%◌, ◌<◌, ◌==◌, false, List, [], ◌∷◌, map, Contains, Option, Some, None, IsSome, IfSome, slice_index_or, sym, ap, ◌∙◌, subst, arith}
use Rattle.std.specs.List.{AllByRecursion, IsDistinct}
use Rattle.std.specs.List.Sorted.{IsPermutation, IsSorted, IsStrictlySortedBy}
use Rattle.std.specs.Ordering.{nat_cmp}
use Rattle.std.specs.Cmp.{nat_cmp_total, nat_eq_equiv}
use Rattle.std.specs.BTreeMap.{BTreeMap, get, keys}
use Rattle.std.specs.BTreeSet.{contains}
use Rattle.std_collections.specs.Layout.BTreeSet.{btree_set}
use Rattle.std.proofs.lemmas.Bool.{eqb-true}
use Rattle.std.proofs.lemmas.List.Sorted.{Contains-permutation, IsNonDecreasingBy-from_sort, IsPermutation-sym}
use Rattle.std.proofs.lemmas.Map.Keys.{IsDistinct-IsPermutation, IsStrictlyIncreasing-from_distinct, sorted_from_strictly_increasing}
use Rattle.std.proofs.lemmas.Map.Lookups.{btree_set_from_contains, exact_unsigned}
use Rattle.std.proofs.lemmas.Map.Views.{btree_map_contains_key_iff, btree_set_contains_iff}
use Rattle.pcp_base.proofs.Members.{All-weaker, Contains-from_IsIn, IsIn-from_Contains, IsIn-map, map-IsIn}
use Rattle.slab.specs.Slab as slab
use Rattle.slab.proofs.SlabLemmas.{Contains-entries}
use Rattle.ordered_index.specs.declared.slots.TheConstants.{MOST_SLOTS}
use Rattle.ordered_index.specs.Slots.{AreSlots, lease_at, number_of}
use Rattle.ordered_index.proofs.Entries.{false_by, same_tests, some_of}
use Rattle.ordered_index.proofs.SlotLaws.{lease-get, own, slot-entry}

-- two lists in order with the same numbers
pub same_sorted : (xs ys : List ℕ) → IsStrictlySortedBy nat_cmp xs → IsStrictlySortedBy nat_cmp ys → ((n : ℕ) → Contains xs n → Contains ys n) → ((n : ℕ) → Contains ys n → Contains xs n) → xs ≡ ys
same_sorted xs ys sorted sorted' there back =
    let in_xs = btree_set_contains_iff nat_cmp_total exact_unsigned (btree_set xs) in
    let in_ys = btree_set_contains_iff nat_cmp_total exact_unsigned (btree_set ys) in
    btree_set_from_contains nat_cmp_total (btree_set xs) (btree_set ys) sorted sorted' (λ n.
    same_tests (contains nat_cmp (btree_set xs) n) (contains nat_cmp (btree_set ys) n) (λ h. (in_ys n).1 (there n ((in_xs n).0 h))) (λ h. (in_xs n).1 (back n ((in_ys n).0 h))))
    exact_unsigned

-- numbers that differ rise where they are sorted
pub sorted_strictly : (xs ys : List ℕ) → IsDistinct (λ a b. a == b) xs → IsPermutation xs ys → IsSorted nat_cmp ys → IsStrictlySortedBy nat_cmp ys
sorted_strictly xs ys distinct moved sorted =
    sorted_from_strictly_increasing ys
    (IsStrictlyIncreasing-from_distinct ys (IsNonDecreasingBy-from_sort (λ n. n) ys sorted) (IsDistinct-IsPermutation (λ a b. a == b) nat_eq_equiv.symm xs ys moved distinct))

no_less : (a b c : ℕ) → a ≡ b → b < c → a ≡ c → ⊥
no_less a b c is less same = absurd (omega (arith, is, less, same))

apart : (n slot : ℕ) → n % MOST_SLOTS ≡ slot → (m : ℕ) → slot < m % MOST_SLOTS → (n == m) ≡ false
apart n slot is m less = false_by (n == m) (λ t. no_less (n % MOST_SLOTS) slot (m % MOST_SLOTS) is less (ap (λ k. k % MOST_SLOTS) (eqb-true n m t)))

module _ {L : Type 0} where
  -- what stands in slots from one on has a number that names it
  abbrev AreNamedFrom : ℕ → List (Option (ℕ × L)) → Type 0
  AreNamedFrom slot [] = ⊤
  AreNamedFrom slot (o ∷ os) = IfSome o (λ e. e.0 % MOST_SLOTS ≡ slot) × AreNamedFrom (slot + 1) os

  named_from : (slot : ℕ) (os : List (Option (ℕ × L))) → ((i : ℕ) → IfSome (slice_index_or os i None) (λ e. e.0 % MOST_SLOTS ≡ slot + i)) → AreNamedFrom slot os
  named_from slot [] named = tt
  named_from slot (o ∷ os) named =
      let here : slot + zero ≡ slot = omega arith in (
        subst (λ k. IfSome o (λ e. e.0 % MOST_SLOTS ≡ k)) here (named zero),
        named_from (slot + 1) os (λ i.
            let next : slot + suc i ≡ slot + 1 + i = omega arith in
            subst (λ k. IfSome (slice_index_or os i None) (λ e. e.0 % MOST_SLOTS ≡ k)) next (named (suc i))),
      )

  abbrev numbers_from : ℕ → List (Option (ℕ × L)) → List ℕ
  numbers_from slot os = map number_of (slab.entries_from slot os)

  -- numbers of later slots
  later : (low slot : ℕ) (os : List (Option (ℕ × L))) → AreNamedFrom slot os → low < slot → AllByRecursion (λ m. low < m % MOST_SLOTS) (numbers_from slot os)
  later low slot [] named less = tt
  later low slot (None ∷ os) named less = later low (slot + 1) os named.1 (omega (arith, less))
  later low slot (Some e ∷ os) named less = (subst (λ k. low < k) (sym named.0) less, later low (slot + 1) os named.1 (omega (arith, less)))

  distinct_from : (slot : ℕ) (os : List (Option (ℕ × L))) → AreNamedFrom slot os → IsDistinct (λ a b. a == b) (numbers_from slot os)
  unfolding IsDistinct
  distinct_from slot [] named = tt
  distinct_from slot (None ∷ os) named = distinct_from (slot + 1) os named.1
  distinct_from slot (Some e ∷ os) named =
      (All-weaker (λ m. slot < m % MOST_SLOTS) (λ m. (e.0 == m) ≡ false) (apart e.0 slot named.0) (numbers_from (slot + 1) os) (later slot (slot + 1) os named.1 (omega arith)), distinct_from (slot + 1) os named.1)

  module _ (slots : slab.Slab (ℕ × L)) (order : BTreeMap ℕ ⊤) (h : AreSlots slots order) where
    abbrev numbers : List ℕ
    numbers = map number_of (slab.entries slots)

    distinct : IsDistinct (λ a b. a == b) numbers
    distinct = distinct_from 0 slots.slots (named_from 0 slots.slots (λ i.
        let same : i ≡ 0 + i = omega arith in
        subst (λ k. IfSome (slab.get slots i) (λ e. e.0 % MOST_SLOTS ≡ k)) same (h.named i)))

    -- each number of a slot is in order
    listed : (n : ℕ) → Contains numbers n → Contains (keys order) n
    listed n there =
        let r = IsIn-map number_of (slab.entries slots) n (IsIn-from_Contains numbers n there) in
        let at = (Contains-entries slots r.0.0 r.0.1).0 (Contains-from_IsIn (slab.entries slots) r.0 r.1) in
        let some : IsSome (get nat_cmp order r.0.1.0) =
        sym (h.listed r.0.1.0) ∙ ap is_some (lease-get slots order h r.0.1.0) ∙ ap is_some (slot-entry slots order h r.0.0 r.0.1 at) in
        subst (λ m. Contains (keys order) m) r.2 ((btree_map_contains_key_iff nat_cmp_total exact_unsigned order r.0.1.0).0 some)

    -- and each number in order is of a slot
    stands : (n : ℕ) → Contains (keys order) n → Contains numbers n
    stands n there =
        let some : IsSome (lease_at slots n) = h.listed n ∙ (btree_map_contains_key_iff nat_cmp_total exact_unsigned order n).1 there in
        let its = own n (slab.get slots (n % MOST_SLOTS)) some in
        let e = some_of (slab.get slots (n % MOST_SLOTS)) its.0 in
        let is : e.0.0 ≡ n = subst (λ (o : Option (ℕ × L)). IfSome o (λ x. x.0 ≡ n)) e.1 its.1 in
        let entry = (Contains-entries slots (n % MOST_SLOTS) e.0).1 e.1 in
        subst (λ m. Contains numbers m) is
        (Contains-from_IsIn numbers e.0.0 (map-IsIn number_of (slab.entries slots) (n % MOST_SLOTS, e.0) (IsIn-from_Contains (slab.entries slots) (n % MOST_SLOTS, e.0) entry)))

    pub sorted-numbers : (ns : List ℕ) → IsPermutation numbers ns → IsSorted nat_cmp ns → ns ≡ keys order
    sorted-numbers ns moved sorted =
        same_sorted ns (keys order) (sorted_strictly numbers ns distinct moved sorted) h.ordered
        (λ n there. listed n (Contains-permutation ns numbers n (IsPermutation-sym numbers ns moved) there))
        (λ n there. Contains-permutation numbers ns n moved (stands n there))
