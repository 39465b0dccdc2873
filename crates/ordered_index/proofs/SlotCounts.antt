-- In how many slots leases stand that pass a test, after one came, changed or went.
use Rattle.std.specs.Prelude.{⊤, is_some}
use Rattle.std.proofs.Common.{◌≡◌, ℕ, zero, suc, ◌+◌, ◌%◌, ◌≤◌, ◌<◌, Bool, true, false, cond, List, [], ◌∷◌, count_by, Option, Some, None, IsSome, IfSome, slice_index_or, refl, sym, ap, ◌∙◌, subst, inl, inr, arith}
use Rattle.std.specs.Map.{lookup, remove_entry, set_value, values_of}
use Rattle.std.specs.Cmp.{nat_cmp_total}
use Rattle.std.specs.Ordering.{nat_cmp}
use Rattle.std.specs.BTreeMap.{BTreeMap, get, is_at, insert_entry, values}
use Rattle.std.proofs.lemmas.Map.Lookups.{exact_unsigned}
use Rattle.slab.specs.Slab as slab
use Rattle.ordered_index.specs.declared.slots.TheConstants.{MOST_SLOTS}
use Rattle.ordered_index.specs.MapSteps.{Inserts, Overwrites, Removes}
use Rattle.ordered_index.specs.Slots.{entries_of, held_below, holds, lease_at, leases_of}
use Rattle.ordered_index.proofs.EntryLaws.{tally, count-inserted, count-removed, count-set}
use Rattle.ordered_index.proofs.Endings.{count-values}
use Rattle.ordered_index.proofs.SlotLaws.{same_or}

module _ {L : Type 0} (test : L → Bool) where
  abbrev tally_of : Option (ℕ × L) → ℕ
  tally_of o = tally (holds test o)

  tally_few : (b : Bool) → tally b ≤ 1
  tally_few true = omega arith
  tally_few false = omega arith

  pub held-none : (s : slab.Slab (ℕ × L)) → held_below test s 0 ≡ 0
  unfolding held_below
  held-none s = refl

  pub held-more : (s : slab.Slab (ℕ × L)) (n : ℕ) → held_below test s (suc n) ≡ held_below test s n + tally (holds test (slab.get s n))
  unfolding held_below
  held-more s n = refl

  pub held-few : (s : slab.Slab (ℕ × L)) (n : ℕ) → held_below test s n ≤ n
  held-few s zero = let none = held-none s in omega (arith, none)
  held-few s (suc n) =
      let more = held-more s n in let rest = held-few s n in let one = tally_few (holds test (slab.get s n)) in omega (arith, more, rest, one)

  -- slots that have none
  pub held-past : (s : slab.Slab (ℕ × L)) (from n : ℕ) → from ≤ n → ((slot : ℕ) → from ≤ slot → slot < n → holds test (slab.get s slot) ≡ false) → held_below test s n ≡ held_below test s from
  held-past s from zero up none = let start : from ≡ 0 = omega (arith, up) in ap (held_below test s) (sym start)
  held-past s from (suc n) up none = elim (same_or from (suc n)) [
    | inl same ↦ ap (held_below test s) (sym same)
    | inr other ↦ (
        let more = held-more s n in
        let rest = held-past s from n (omega (arith, up, other)) (λ slot low high. none slot low (omega (arith, high))) in
        let zero_here : tally_of (slab.get s n) ≡ 0 = ap tally (none n (omega (arith, up, other)) (omega arith)) in
        omega (arith, more, rest, zero_here))
  ]

  module _ (old new : slab.Slab (ℕ × L)) where
    -- where each slot has what it had
    pub held-same : ((k : ℕ) → slab.get new k ≡ slab.get old k) → (n : ℕ) → held_below test new n ≡ held_below test old n
    held-same same zero = held-none new ∙ sym (held-none old)
    held-same same (suc n) =
        let a = held-more new n in let b = held-more old n in let rest = held-same same n in
        let one : tally_of (slab.get new n) ≡ tally_of (slab.get old n) = ap tally_of (same n) in
        omega (arith, a, b, rest, one)

    module _ (key : ℕ) (slot : Option (ℕ × L)) (updates : slab.Updates old new key slot) where
      held_front : (n : ℕ) → n ≤ key → held_below test new n ≡ held_below test old n
      held_front zero up = held-none new ∙ sym (held-none old)
      held_front (suc n) up =
          let a = held-more new n in let b = held-more old n in let rest = held_front n (omega (arith, up)) in
          let one : tally_of (slab.get new n) ≡ tally_of (slab.get old n) = ap tally_of (updates.others n (λ same. omega (arith, same, up))) in
          omega (arith, a, b, rest, one)

      -- where one is changed
      pub held-updated : (n : ℕ) → key < n → held_below test new n + tally_of (slab.get old key) ≡ held_below test old n + tally_of slot
      held-updated zero low = absurd (omega (arith, low))
      held-updated (suc n) low =
          let a = held-more new n in let b = held-more old n in
          elim (same_or key n) [
            | inl same ↦ (
                let front = held_front n (omega (arith, same)) in
                let is : tally_of (slab.get new n) ≡ tally_of slot = ap (λ k. tally_of (slab.get new k)) (sym same) ∙ ap tally_of updates.changed in
                let was : tally_of (slab.get old n) ≡ tally_of (slab.get old key) = ap (λ k. tally_of (slab.get old k)) (sym same) in
                omega (arith, a, b, front, is, was))
            | inr other ↦ (
                let rest = held-updated n (omega (arith, low, other)) in
                let one : tally_of (slab.get new n) ≡ tally_of (slab.get old n) = ap tally_of (updates.others n (λ same. other (sym same))) in
                omega (arith, a, b, rest, one))
          ]

  -- how many leases pass, after one came, changed or went
  pub count-come : (old new : BTreeMap ℕ L) (n : ℕ) (l : L) → get nat_cmp old n ≡ None → Inserts nat_cmp old new n l → count_by test (values new) ≡ count_by test (values old) + tally (test l)
  count-come old new n l free inserts =
      let more : count_by (λ (e : ℕ × L). test e.1) (insert_entry nat_cmp old.entries n l) ≡ count_by (λ (e : ℕ × L). test e.1) old.entries + tally (test l) = count-inserted nat_cmp_total n (λ (e : ℕ × L). test e.1) l old.entries free in
      let same : count_by (λ (e : ℕ × L). test e.1) new.entries ≡ count_by (λ (e : ℕ × L). test e.1) (insert_entry nat_cmp old.entries n l) = ap (count_by (λ (e : ℕ × L). test e.1)) inserts.entries in
      let after = count-values test new.entries in let before = count-values test old.entries in
      omega (arith, more, same, after, before)

  pub count-changed : (old new : BTreeMap ℕ L) (n : ℕ) (x l : L) → get nat_cmp old n ≡ Some x → Overwrites nat_cmp old new n l → count_by test (values new) + tally (test x) ≡ count_by test (values old) + tally (test l)
  count-changed old new n x l at_n overwrites =
      let set : count_by (λ (e : ℕ × L). test e.1) (set_value (is_at (nat_cmp n)) old.entries l) + tally (test x) ≡ count_by (λ (e : ℕ × L). test e.1) old.entries + tally (test l) = count-set nat_cmp_total n (λ (e : ℕ × L). test e.1) exact_unsigned x l old.entries at_n in
      let same : count_by (λ (e : ℕ × L). test e.1) new.entries ≡ count_by (λ (e : ℕ × L). test e.1) (set_value (is_at (nat_cmp n)) old.entries l) = ap (count_by (λ (e : ℕ × L). test e.1)) overwrites.entries in
      let after = count-values test new.entries in let before = count-values test old.entries in
      omega (arith, set, same, after, before)

  pub count-gone : (old new : BTreeMap ℕ L) (n : ℕ) (x : L) → get nat_cmp old n ≡ Some x → Removes nat_cmp old new n → count_by test (values new) + tally (test x) ≡ count_by test (values old)
  count-gone old new n x at_n removes =
      let less : count_by (λ (e : ℕ × L). test e.1) (remove_entry (is_at (nat_cmp n)) old.entries) + tally (test x) ≡ count_by (λ (e : ℕ × L). test e.1) old.entries = count-removed nat_cmp_total n (λ (e : ℕ × L). test e.1) exact_unsigned x old.entries at_n in
      let same : count_by (λ (e : ℕ × L). test e.1) new.entries ≡ count_by (λ (e : ℕ × L). test e.1) (remove_entry (is_at (nat_cmp n)) old.entries) = ap (count_by (λ (e : ℕ × L). test e.1)) removes.entries in
      let after = count-values test new.entries in let before = count-values test old.entries in
      omega (arith, less, same, after, before)

-- what isn't there isn't taken out
none_step : {X : Type 0} (n : ℕ) (e : ℕ × X) (es : List (ℕ × X)) (b : Bool) → (lookup (is_at (nat_cmp n)) es ≡ None → remove_entry (is_at (nat_cmp n)) es ≡ es) → cond b (Some e.1) (lookup (is_at (nat_cmp n)) es) ≡ None →
    cond b es (e ∷ remove_entry (is_at (nat_cmp n)) es) ≡ e ∷ es
none_step n e es true rest none = absurd (let no : Some e.1 ≡ None = none in cc)
none_step n e es false rest none = ap (λ t. e ∷ t) (rest none)

pub none-removed : {X : Type 0} (n : ℕ) (es : List (ℕ × X)) → lookup (is_at (nat_cmp n)) es ≡ None → remove_entry (is_at (nat_cmp n)) es ≡ es
none-removed n [] none = refl
none-removed n (e ∷ es) none = none_step n e es (is_at (nat_cmp n) e.0) (none-removed n es) none
