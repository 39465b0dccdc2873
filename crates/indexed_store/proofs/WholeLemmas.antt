-- What is found among all leases, by those that are looked up and those that have left.
use Rattle.std.specs.Prelude.{is_some}
use Rattle.std.proofs.Common.{◌≡◌, ℕ, ◌+◌, ◌≤◌, ◌&&◌, ◌||◌, Bool, true, false, List, filter, find, length, count_by, Contains, Option, Some, None, IsSome, refl, sym, ap, ◌∙◌, subst, inl, inr, arith}
use Rattle.std.specs.List.{AllByRecursion, list_any}
use Rattle.std.proofs.lemmas.Bool.{and_parts, and_from, or_left, or_right, or_cases}
use Rattle.std.proofs.lemmas.List.Sums.{length-filter}
use Rattle.pcp_base.proofs.Anys.{any-filter}
use Rattle.pcp_base.proofs.Members.{IsIn, IsIn-filter, IsIn-from_Contains, Contains-from_IsIn, All-IsIn, All-from_IsIn, filter-IsIn, find-IsIn, find-none, find-some, any-some, some-any}
use Rattle.pcp_base.proofs.TableLemmas.{length-fewer}
use Rattle.ordered_index.specs.Aged.{Aged, AreTogether}
use Rattle.ordered_index.proofs.Entries.{false_by, same_tests}
use Rattle.indexed_store.proofs.LookLemmas.{some_any}
use Rattle.indexed_store.proofs.Uniques.{AtMostOne, all-none}

-- what alone passes is found
find-one : {X : Type 0} (p : X → Bool) (xs : List X) → AtMostOne p xs → (x : X) → IsIn x xs → p x ≡ true → Some x ≡ find p xs
find-one {X} p xs one x i passes = step (find p xs) refl
  where
    step : (o : Option X) → find p xs ≡ o → Some x ≡ o
    step None e = absurd (let no : false ≡ true = subst (λ (o : Option X). IsSome o) e (find-IsIn p xs x i passes) in cc)
    step (Some y) e = let f = find-some p xs y e in ap Some (one x y i f.0 passes f.1)

pub count-few : {X : Type 0} (p : X → Bool) (xs : List X) → count_by p xs ≤ length xs
count-few p xs = let is = length-filter p xs in let few = length-fewer p xs in omega (arith, is, few)

module _ {X : Type 0} (t : Aged X) (are : AreTogether t) where
  in_found : (x : X) → IsIn x t.found → IsIn x t.all
  in_found x i = IsIn-from_Contains t.all x (are.of_found x (Contains-from_IsIn t.found x i))

  in_past : (x : X) → IsIn x t.past → IsIn x t.all
  in_past x i = IsIn-from_Contains t.all x (are.of_past x (Contains-from_IsIn t.past x i))

  pub any-whole : (p : X → Bool) → list_any p t.all ≡ (list_any p t.found || list_any p t.past)
  any-whole p = same_tests (list_any p t.all) (list_any p t.found || list_any p t.past)
      (λ h. let s = any-some p t.all h in elim (are.of_all s.0 (Contains-from_IsIn t.all s.0 s.1)) [
        | inl here ↦ or_left _ _ (some-any p t.found s.0 (IsIn-from_Contains t.found s.0 here) s.2)
        | inr gone ↦ or_right _ _ (some-any p t.past s.0 (IsIn-from_Contains t.past s.0 gone) s.2)
      ])
      (λ h. elim (or_cases _ _ h) [
        | inl here ↦ (let s = any-some p t.found here in some-any p t.all s.0 (in_found s.0 s.1) s.2)
        | inr gone ↦ (let s = any-some p t.past gone in some-any p t.all s.0 (in_past s.0 s.1) s.2)
      ])

  -- whether one that passes is live
  pub some-whole : (live p : X → Bool) → (is_some (find p (filter live t.found)) || list_any (λ x. live x && p x) t.past) ≡ is_some (find p (filter live t.all))
  some-whole live p =
      ap (λ b. b || list_any (λ x. live x && p x) t.past) (some_any p (filter live t.found) ∙ any-filter p live t.found)
      ∙ sym (any-whole (λ x. live x && p x)) ∙ sym (any-filter p live t.all) ∙ sym (some_any p (filter live t.all))

  module _ (live p : X → Bool) (one : AtMostOne p (filter live t.all)) where
    -- one that is looked up
    pub found-whole : (x : X) → IsIn x t.found → live x ≡ true → p x ≡ true → Some x ≡ find p (filter live t.all)
    found-whole x i alive passes = find-one p (filter live t.all) one x (filter-IsIn live t.all x (in_found x i) alive) passes

    -- where none that is looked up passes, one that has left
    pub past-whole : ((x : X) → IsIn x t.found → live x ≡ true → p x ≡ true → ⊥) → find (λ x. live x && p x) t.past ≡ find p (filter live t.all)
    past-whole none = step (find (λ x. live x && p x) t.past) refl
      where
        fails : find (λ x. live x && p x) t.past ≡ None → (x : X) → IsIn x (filter live t.all) → p x ≡ false
        fails e x i =
            let all = IsIn-filter live t.all x i in
            elim (are.of_all x (Contains-from_IsIn t.all x all.0)) [
              | inl here ↦ false_by (p x) (λ passes. none x (IsIn-from_Contains t.found x here) all.1 passes)
              | inr gone ↦ false_by (p x) (λ passes.
                  let no = All-IsIn (λ y. (live y && p y) ≡ false) t.past x (find-none (λ y. live y && p y) t.past e) (IsIn-from_Contains t.past x gone) in
                  let yes = and_from (live x) (p x) all.1 passes in cc)
            ]

        step : (o : Option X) → find (λ x. live x && p x) t.past ≡ o → o ≡ find p (filter live t.all)
        step None e = sym (all-none p (filter live t.all) (All-from_IsIn (λ x. p x ≡ false) (filter live t.all) (fails e)))
        step (Some x) e =
            let f = find-some (λ y. live y && p y) t.past x e in
            let both = and_parts (live x) (p x) f.1 in
            find-one p (filter live t.all) one x (filter-IsIn live t.all x (in_past x f.0) both.0) both.1
