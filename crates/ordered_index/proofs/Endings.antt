-- The leases that have ended, in the list.
use Rattle.std.proofs.Common.{◌≡◌, ℕ, suc, ◌+◌, ◌-◌, ◌≤◌, nat_lt, Bool, true, false, not, cond, List, [], ◌∷◌, find, length, count_by, Contains, Option, Some, None, refl, sym, ap, ◌∙◌, inl, inr, arith}
use Rattle.std.specs.Map.{values_of}
use Rattle.std.specs.Ordering.{nat_cmp}
use Rattle.std.specs.BTreeMap.{BTreeMap, IsOrdered, get, is_at, values}
use Rattle.std.proofs.lemmas.List.Filters.{length-filter_both}
use Rattle.std.proofs.lemmas.List.Sums.{length-filter}
use Rattle.pcp_base.proofs.Members.{IsIn, Contains-from_IsIn}
use Rattle.ordered_index.specs.Ended.{has_ended, IsOneEnded}
use Rattle.ordered_index.proofs.Entries.{at, find_none}
use Rattle.ordered_index.proofs.EntryLaws.{count-cons}

-- to count entries by their values is to count the values
pub count-values : {X : Type 0} (p : X → Bool) (es : List (ℕ × X)) → count_by (λ e. p e.1) es ≡ count_by p (values_of es)
count-values p [] = refl
count-values p (e ∷ es) =
    let a = count-cons (λ (x : ℕ × _). p x.1) e es in let b = count-cons p e.1 (values_of es) in let rest = count-values p es in omega (arith, a, b, rest)

length-values : {X : Type 0} (es : List (ℕ × X)) → length (values_of es) ≡ length es
length-values [] = refl
length-values (e ∷ es) = ap suc (length-values es)

module _ {X : Type 0} where
  value_step : (e : ℕ × X) (es : List (ℕ × X)) (l : X) (c : Bool) (rest : Option X) → (rest ≡ Some l → IsIn l (values_of es)) → cond c (Some e.1) rest ≡ Some l → IsIn l (e.1 ∷ values_of es)
  value_step e es l true rest f h = inl (let same : e.1 ≡ l = cc in same)
  value_step e es l false rest f h = inr (f h)

  -- what stands at a number is one of the values
  pub value-in : (es : List (ℕ × X)) (n : ℕ) (l : X) → at es n ≡ Some l → IsIn l (values_of es)
  value-in [] n l a = absurd (let no : None ≡ Some l = a in cc)
  value-in (e ∷ es) n l a = value_step e es l (is_at (nat_cmp n) e.0) (at es n) (value-in es n l) a

pub one-among : {L : Type 0} (leases : BTreeMap ℕ L) (n : ℕ) (l : L) → get nat_cmp leases n ≡ Some l → Contains (values leases) l
one-among leases n l a = Contains-from_IsIn (values leases) l (value-in leases.entries n l a)

not_true : (b : Bool) → not b ≡ true → b ≡ false
not_true true h = absurd (let no : false ≡ true = h in cc)
not_true false h = refl

module _ {L : Type 0} (expiry : L → ℕ) (leases : BTreeMap ℕ L) (ordered : IsOrdered nat_cmp leases) (m : ℕ) where
  abbrev is_live : L → Bool
  is_live l = nat_lt m (expiry l)

  both_counts : count_by is_live (values leases) + count_by (λ l. not (is_live l)) (values leases) ≡ length leases.entries
  both_counts =
      let live = length-filter is_live (values leases) in
      let dead = length-filter (λ l. not (is_live l)) (values leases) in
      let both = length-filter_both is_live (λ l. not (is_live l)) (λ l. refl) (values leases) in
      let all = length-values leases.entries in
      omega (arith, live, dead, both, all)

  pub ended-few : (n : ℕ) → n ≡ count_by (has_ended expiry m) (values leases) → n ≤ length leases.entries
  ended-few n h = let both = both_counts in omega (arith, h, both)

  pub live-count : (n : ℕ) → n ≡ count_by (has_ended expiry m) (values leases) → length leases.entries - n ≡ count_by is_live (values leases)
  live-count n h = let both = both_counts in omega (arith, h, both)

  -- the lease at the number of one that has ended
  pub one-stands : (n : ℕ) → IsOneEnded expiry m leases (Some n) → (l : L) × (get nat_cmp leases n ≡ Some l) × (is_live l ≡ false)
  one-stands n h = (h.ended.0, h.ended.1, not_true (is_live h.ended.0) h.ended.2)

  pub one-none : IsOneEnded expiry m leases None → find (λ x. not (is_live x)) (values leases) ≡ None
  one-none h = find_none (λ x. not (is_live x)) leases ordered (λ n x a t.
      absurd (let no : true ≡ false = sym t ∙ h.none n x a in cc))
