-- Numbers in order after one came or went.
use Rattle.std.specs.Prelude.{⊤}
use Rattle.std.proofs.Common.{◌≡◌, ℕ, suc, ◌+◌, ◌<◌, ◌==◌, nat_lt, Bool, true, false, cond, List, [], ◌∷◌, length, Option, Some, None, IsSome, refl, sym, ap, ◌∙◌, subst, arith}
use Rattle.std.specs.List.{AllByRecursion}
use Rattle.std.specs.List.Sorted.{IsStrictlySortedBy}
use Rattle.std.specs.Map.{lookup, remove_entry, keys_of}
use Rattle.std.specs.Ordering.{nat_cmp, is_eq, match_ordering, ordering_reverse}
use Rattle.std.specs.declared.cmp.Ordering.{Ordering}
use Rattle.std.specs.declared.cmp.Ordering.TheVariants.{Less, Equal, Greater}
use Rattle.std.specs.Cmp.{nat_cmp_total, eq_by_cmp_equiv}
use Rattle.std.specs.BTreeMap.{is_at, insert_entry}
use Rattle.std.proofs.lemmas.Bool.{lt-ltb, ltb-true}
use Rattle.std.proofs.lemmas.Map.{lookup-remove_entry}
use Rattle.std.proofs.lemmas.Map.Keys.{sorted_head, sorted_tail, IsDistinct-from_sorted}
use Rattle.std.proofs.lemmas.Map.Lookups.{exact_unsigned}
use Rattle.pcp_base.proofs.Members.{All-weaker}
use Rattle.ordered_index.specs.MapSteps.{IsBlankMap, Inserts, Removes}
use Rattle.ordered_index.specs.Slots.{AreOrdered, order_of}
use Rattle.ordered_index.proofs.Entries.{number_same, number_self, number_other}
use Rattle.ordered_index.proofs.EntryLaws.{lookup-inserted}

not_less : (t : Bool) → cond t Equal Greater ≡ Less → ⊥
not_less true h = let no : Equal ≡ Less = h in cc
not_less false h = let no : Greater ≡ Less = h in cc

less_is : (a b : ℕ) → nat_cmp a b ≡ Less → a < b
less_is a b = step (nat_lt a b) refl
  where
    step : (t : Bool) → nat_lt a b ≡ t → cond t Less (cond (a == b) Equal Greater) ≡ Less → a < b
    step true e h = ltb-true a b e
    step false e h = absurd (not_less (a == b) h)

is_less : (a b : ℕ) → a < b → nat_cmp a b ≡ Less
is_less a b h = ap (λ t. cond t Less (cond (a == b) Equal Greater)) (lt-ltb a b h)

through : (a b c : ℕ) → nat_cmp a b ≡ Less → nat_cmp b c ≡ Less → nat_cmp a c ≡ Less
through a b c h k = let x = less_is a b h in let y = less_is b c k in is_less a c (omega (arith, x, y))

turned : (a b : ℕ) → nat_cmp a b ≡ Greater → nat_cmp b a ≡ Less
turned a b h = nat_cmp_total.antisymm b a ∙ ap ordering_reverse h

sorted_none : IsStrictlySortedBy nat_cmp []
unfolding IsStrictlySortedBy
sorted_none = tt

sorted_cons : (n : ℕ) (ns : List ℕ) → AllByRecursion (λ k. nat_cmp n k ≡ Less) ns → IsStrictlySortedBy nat_cmp ns → IsStrictlySortedBy nat_cmp (n ∷ ns)
unfolding IsStrictlySortedBy
sorted_cons n ns head rest = (head, rest)

module _ (n : ℕ) where
  abbrev at : List (ℕ × ⊤) → Option ⊤
  at es = lookup (is_at (nat_cmp n)) es

  abbrev with_number : List (ℕ × ⊤) → List (ℕ × ⊤)
  with_number es = insert_entry nat_cmp es n tt

  abbrev without_number : List (ℕ × ⊤) → List (ℕ × ⊤)
  without_number es = remove_entry (is_at (nat_cmp n)) es

  -- what the step of an insertion makes
  abbrev placed : Ordering → ℕ × ⊤ → List (ℕ × ⊤) → List (ℕ × ⊤)
  placed o e es = match_ordering o ((n, tt) ∷ e ∷ es) ((e.0, tt) ∷ es) (e ∷ with_number es)

  all_placed : (P : ℕ → Type 0) (e : ℕ × ⊤) (es : List (ℕ × ⊤)) (o : Ordering) → P n → AllByRecursion P (keys_of (e ∷ es)) → AllByRecursion P (keys_of (with_number es)) → AllByRecursion P (keys_of (placed o e es))
  all_placed P e es Less here all rest = (here, all)
  all_placed P e es Equal here all rest = all
  all_placed P e es Greater here all rest = (all.0, rest)

  all_inserted : (P : ℕ → Type 0) (es : List (ℕ × ⊤)) → P n → AllByRecursion P (keys_of es) → AllByRecursion P (keys_of (with_number es))
  all_inserted P [] here all = (here, tt)
  all_inserted P (e ∷ es) here all = all_placed P e es (nat_cmp n e.0) here all (all_inserted P es here all.1)

  sorted_placed : (e : ℕ × ⊤) (es : List (ℕ × ⊤)) (o : Ordering) → nat_cmp n e.0 ≡ o → IsStrictlySortedBy nat_cmp (keys_of (e ∷ es)) → IsStrictlySortedBy nat_cmp (keys_of (with_number es)) → IsStrictlySortedBy nat_cmp (keys_of (placed o e es))
  sorted_placed e es Less h sorted rest =
      let head = All-weaker (λ k. nat_cmp e.0 k ≡ Less) (λ k. nat_cmp n k ≡ Less) (λ k less. through n e.0 k h less) (keys_of es) (sorted_head nat_cmp e.0 (keys_of es) sorted) in
      sorted_cons n (keys_of (e ∷ es)) (h, head) sorted
  sorted_placed e es Equal h sorted rest = sorted
  sorted_placed e es Greater h sorted rest =
      sorted_cons e.0 (keys_of (with_number es)) (all_inserted (λ k. nat_cmp e.0 k ≡ Less) es (turned n e.0 h) (sorted_head nat_cmp e.0 (keys_of es) sorted)) rest

  sorted_inserted : (es : List (ℕ × ⊤)) → IsStrictlySortedBy nat_cmp (keys_of es) → IsStrictlySortedBy nat_cmp (keys_of (with_number es))
  sorted_inserted [] sorted = sorted_cons n [] tt sorted
  sorted_inserted (e ∷ es) sorted = sorted_placed e es (nat_cmp n e.0) refl sorted (sorted_inserted es (sorted_tail nat_cmp e.0 (keys_of es) sorted))

  all_left : (P : ℕ → Type 0) (e : ℕ × ⊤) (es : List (ℕ × ⊤)) (b : Bool) → AllByRecursion P (keys_of (e ∷ es)) → AllByRecursion P (keys_of (without_number es)) → AllByRecursion P (keys_of (cond b es (e ∷ without_number es)))
  all_left P e es true all rest = all.1
  all_left P e es false all rest = (all.0, rest)

  all_removed : (P : ℕ → Type 0) (es : List (ℕ × ⊤)) → AllByRecursion P (keys_of es) → AllByRecursion P (keys_of (without_number es))
  all_removed P [] all = tt
  all_removed P (e ∷ es) all = all_left P e es (is_at (nat_cmp n) e.0) all (all_removed P es all.1)

  sorted_left : (e : ℕ × ⊤) (es : List (ℕ × ⊤)) (b : Bool) → IsStrictlySortedBy nat_cmp (keys_of (e ∷ es)) → IsStrictlySortedBy nat_cmp (keys_of (without_number es)) → IsStrictlySortedBy nat_cmp (keys_of (cond b es (e ∷ without_number es)))
  sorted_left e es true sorted rest = sorted_tail nat_cmp e.0 (keys_of es) sorted
  sorted_left e es false sorted rest = sorted_cons e.0 (keys_of (without_number es)) (all_removed (λ k. nat_cmp e.0 k ≡ Less) es (sorted_head nat_cmp e.0 (keys_of es) sorted)) rest

  sorted_removed : (es : List (ℕ × ⊤)) → IsStrictlySortedBy nat_cmp (keys_of es) → IsStrictlySortedBy nat_cmp (keys_of (without_number es))
  sorted_removed [] sorted = sorted
  sorted_removed (e ∷ es) sorted = sorted_left e es (is_at (nat_cmp n) e.0) sorted (sorted_removed es (sorted_tail nat_cmp e.0 (keys_of es) sorted))

  -- the number itself is there
  self_placed : (e : ℕ × ⊤) (es : List (ℕ × ⊤)) (o : Ordering) → nat_cmp n e.0 ≡ o → at (with_number es) ≡ Some tt → at (placed o e es) ≡ Some tt
  self_placed e es Less h rest = ap (λ t. cond t (Some tt) (at (e ∷ es))) (number_self n)
  self_placed e es Equal h rest = ap (λ o. cond (is_eq o) (Some tt) (at es)) h
  self_placed e es Greater h rest = ap (λ o. cond (is_eq o) (Some e.1) (at (with_number es))) h ∙ rest

  self_inserted : (es : List (ℕ × ⊤)) → at (with_number es) ≡ Some tt
  self_inserted [] = ap (λ t. cond t (Some tt) None) (number_self n)
  self_inserted (e ∷ es) = self_placed e es (nat_cmp n e.0) refl (self_inserted es)

  get_inserted : (m : ℕ) (es : List (ℕ × ⊤)) (b : Bool) → is_at (nat_cmp n) m ≡ b → lookup (is_at (nat_cmp m)) (with_number es) ≡ cond b (Some tt) (lookup (is_at (nat_cmp m)) es)
  get_inserted m es true h = subst (λ k. lookup (is_at (nat_cmp k)) (with_number es) ≡ Some tt) (number_same n m h) (self_inserted es)
  get_inserted m es false h =
      lookup-inserted nat_cmp_total n exact_unsigned m tt es (number_other m n (λ same. let no : true ≡ false = sym (number_self n) ∙ ap (λ k. is_at (nat_cmp n) k) (sym same) ∙ h in cc))

  length_placed : (e : ℕ × ⊤) (es : List (ℕ × ⊤)) (o : Ordering) → (at es ≡ None → length (with_number es) ≡ length es + 1) → cond (is_eq o) (Some e.1) (at es) ≡ None → length (placed o e es) ≡ suc (length es) + 1
  length_placed e es Less rest free = omega arith
  length_placed e es Equal rest free = absurd (let no : Some e.1 ≡ None = free in cc)
  length_placed e es Greater rest free = let more = rest free in omega (arith, more)

  -- one number more, where it is new
  pub length-inserted : (es : List (ℕ × ⊤)) → at es ≡ None → length (with_number es) ≡ length es + 1
  length-inserted [] free = omega arith
  length-inserted (e ∷ es) free = length_placed e es (nat_cmp n e.0) (length-inserted es) free

  length_left : (e : ℕ × ⊤) (es : List (ℕ × ⊤)) (b : Bool) → (IsSome (at es) → length (without_number es) + 1 ≡ length es) → IsSome (cond b (Some e.1) (at es)) → length (cond b es (e ∷ without_number es)) + 1 ≡ suc (length es)
  length_left e es true rest there = omega arith
  length_left e es false rest there = let less = rest there in omega (arith, less)

  -- one number less, where it is there
  pub length-removed : (es : List (ℕ × ⊤)) → IsSome (at es) → length (without_number es) + 1 ≡ length es
  length-removed [] there = absurd (let no : false ≡ true = there in cc)
  length-removed (e ∷ es) there = length_left e es (is_at (nat_cmp n) e.0) (length-removed es) there

  module _ (es es' : List (ℕ × ⊤)) (ordered : AreOrdered es) where
    pub ordered-inserted : es' ≡ with_number es → AreOrdered es'
    ordered-inserted is = subst AreOrdered (sym is) (sorted_inserted es ordered)

    pub order-inserts : es' ≡ with_number es → Inserts nat_cmp (order_of es) (order_of es') n tt
    order-inserts is = record {
      entries = is;
      changed = λ m. ap (λ (fs : List (ℕ × ⊤)). lookup (is_at (nat_cmp m)) fs) is ∙ get_inserted m es (is_at (nat_cmp n) m) refl;
      ordered = ordered-inserted is;
    }

    pub ordered-removed : es' ≡ without_number es → AreOrdered es'
    ordered-removed is = subst AreOrdered (sym is) (sorted_removed es ordered)

    pub order-removes : es' ≡ without_number es → Removes nat_cmp (order_of es) (order_of es') n
    order-removes is = record {
      entries = is;
      changed = λ m. ap (λ (fs : List (ℕ × ⊤)). lookup (is_at (nat_cmp m)) fs) is
          ∙ lookup-remove_entry (eq_by_cmp_equiv nat_cmp_total) (is_at (nat_cmp n)) ((eq_by_cmp_equiv nat_cmp_total).congr n) m es (IsDistinct-from_sorted nat_cmp (keys_of es) ordered);
      ordered = ordered-removed is;
    }

pub ordered-none : (es : List (ℕ × ⊤)) → es ≡ [] → AreOrdered es
ordered-none es none = subst AreOrdered (sym none) sorted_none

pub order-none : (es : List (ℕ × ⊤)) → es ≡ [] → IsBlankMap nat_cmp (order_of es)
order-none es none = record { entries = none; ordered = ordered-none es none }
