-- The numbers of two maps that have none in common, sorted.
use Rattle.std.proofs.Common.{◌≡◌, ℕ, ◌==◌, false, List, [], ◌∷◌, true, ◌++◌, Contains, IsSome, refl, sym, ap, ◌∙◌, subst, inl, inr, append-nil}
use Rattle.std.specs.Prelude.{◌⊎◌, is_some}
use Rattle.std.specs.List.{IsDistinct}
use Rattle.std.specs.List.Sorted.{IsPermutation, IsSorted, IsStrictlySortedBy}
use Rattle.std.specs.Ordering.{nat_cmp, is_eq}
use Rattle.std.specs.declared.cmp.Ordering.TheVariants.{Less}
use Rattle.std.specs.Cmp.{nat_cmp_total}
use Rattle.std.specs.BTreeMap.{BTreeMap, get, keys}
use Rattle.std.proofs.lemmas.Bool.{eqb-true}
use Rattle.std.proofs.lemmas.List.Sorted.{Contains-permutation, IsPermutation-sym}
use Rattle.std.proofs.lemmas.Map.Keys.{sorted_head, sorted_tail}
use Rattle.std.proofs.lemmas.Map.Lookups.{exact_unsigned}
use Rattle.std.proofs.lemmas.Map.Views.{btree_map_contains_key_iff}
use Rattle.pcp_base.proofs.Members.{IsIn, IsIn-from_Contains, Contains-from_IsIn, IsIn-append, IsIn-left, IsIn-right, All-append, All-from_IsIn, All-weaker}
use Rattle.ordered_index.specs.Aged.{AreBoth, AreNumbersOf}
use Rattle.ordered_index.proofs.Entries.{false_by, is_at-nat}
use Rattle.ordered_index.proofs.SlotNumbers.{sorted_strictly}

unequal : (k m : ℕ) → nat_cmp k m ≡ Less → (k == m) ≡ false
unequal k m less = sym (is_at-nat k m) ∙ ap is_eq less

distinct_sorted : (ks : List ℕ) → IsStrictlySortedBy nat_cmp ks → IsDistinct (λ a b. a == b) ks
unfolding IsDistinct
distinct_sorted [] sorted = tt
distinct_sorted (k ∷ ks) sorted =
    (All-weaker (λ m. nat_cmp k m ≡ Less) (λ m. (k == m) ≡ false) (unequal k) ks (sorted_head nat_cmp k ks sorted), distinct_sorted ks (sorted_tail nat_cmp k ks sorted))

distinct_both : (ks js : List ℕ) → IsStrictlySortedBy nat_cmp ks → IsStrictlySortedBy nat_cmp js → ((n : ℕ) → IsIn n ks → IsIn n js → ⊥) → IsDistinct (λ a b. a == b) (ks ++ js)
unfolding IsDistinct
distinct_both [] js sorted sorted' apart = distinct_sorted js sorted'
distinct_both (k ∷ ks) js sorted sorted' apart =
    let others = All-weaker (λ m. nat_cmp k m ≡ Less) (λ m. (k == m) ≡ false) (unequal k) ks (sorted_head nat_cmp k ks sorted) in
    let outside = All-from_IsIn (λ m. (k == m) ≡ false) js (λ m i. false_by (k == m) (λ t. apart k (inl refl) (subst (λ z. IsIn z js) (sym (eqb-true k m t)) i))) in
    (All-append (λ m. (k == m) ≡ false) ks js others outside, distinct_both ks js (sorted_tail nat_cmp k ks sorted) sorted' (λ n i j. apart n (inr i) j))

module _ {X Y : Type 0} (leases : BTreeMap ℕ X) (past : BTreeMap ℕ Y) (both : AreBoth leases past) where
  abbrev all : List ℕ
  all = keys leases ++ keys past

  of_lease : (n : ℕ) → IsIn n (keys leases) → IsSome (get nat_cmp leases n)
  of_lease n i = (btree_map_contains_key_iff nat_cmp_total exact_unsigned leases n).1 (Contains-from_IsIn (keys leases) n i)

  of_past : (n : ℕ) → IsIn n (keys past) → IsSome (get nat_cmp past n)
  of_past n i = (btree_map_contains_key_iff nat_cmp_total exact_unsigned past n).1 (Contains-from_IsIn (keys past) n i)

  apart : (n : ℕ) → IsIn n (keys leases) → IsIn n (keys past) → ⊥
  apart n i j = let none : false ≡ true = sym (ap is_some (both.apart n (of_past n j))) ∙ of_lease n i in cc

  module _ (ns : List ℕ) (moved : IsPermutation all ns) where
    in_either : (n : ℕ) → Contains ns n → IsIn n (keys leases) ⊎ IsIn n (keys past)
    in_either n there = IsIn-append (keys leases) (keys past) n (IsIn-from_Contains all n (Contains-permutation ns all n (IsPermutation-sym all ns moved) there))

    from_all : (n : ℕ) → IsIn n all → Contains ns n
    from_all n i = Contains-permutation all ns n moved (Contains-from_IsIn all n i)

    numbers_of : IsSorted nat_cmp ns → AreNumbersOf leases past ns
    numbers_of sorted = record {
      sorted = sorted_strictly all ns (distinct_both (keys leases) (keys past) both.ordered both.past_ordered apart) moved sorted;
      either = λ n there. elim (in_either n there) [
        | inl one ↦ inl (of_lease n one)
        | inr other ↦ inr (of_past n other)
      ];
      of_leases = λ n some.
          from_all n (IsIn-left (keys leases) (keys past) n (IsIn-from_Contains (keys leases) n ((btree_map_contains_key_iff nat_cmp_total exact_unsigned leases n).0 some)));
      of_past = λ n some.
          from_all n (IsIn-right (keys leases) (keys past) n (IsIn-from_Contains (keys past) n ((btree_map_contains_key_iff nat_cmp_total exact_unsigned past n).0 some)));
    }

  -- what is out where nothing is left, sorted
  pub both-numbers : (out left ns : List ℕ) → left ≡ [] → out ++ left ≡ keys leases ++ keys past → IsPermutation out ns → IsSorted nat_cmp ns → AreNumbersOf leases past ns
  both-numbers out left ns none whole moved =
      let is : out ≡ all = sym (append-nil out) ∙ ap (λ (l : List ℕ). out ++ l) (sym none) ∙ whole in
      numbers_of ns (subst (λ (l : List ℕ). IsPermutation l ns) is moved)
