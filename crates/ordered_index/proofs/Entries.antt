-- Entries by their numbers, and their values as a list.
use Rattle.std.proofs.Common.{◌≡◌, ℕ, ◌<◌, ◌==◌, nat_lt, Bool, true, false, not, cond, List, [], ◌∷◌, ◌++◌, filter, find, Option, Some, None, IsSome, refl, sym, ap, ◌∙◌, subst, inl, inr, arith}
use Rattle.std.specs.List.{AllByRecursion, list_any}
use Rattle.std.specs.List.Sorted.{IsStrictlySortedBy}
use Rattle.std.specs.Map.{lookup, set_value, remove_entry, keys_of, values_of}
use Rattle.std.specs.BTreeMap.{BTreeMap, IsOrdered, get, is_at, insert_entry}
use Rattle.std.specs.Ordering.{nat_cmp, is_eq, match_ordering}
use Rattle.std.specs.declared.cmp.Ordering.TheVariants.{Less, Equal, Greater}
use Rattle.std.specs.Cmp.{nat_cmp_total}
use Rattle.std.proofs.lemmas.Cmp.{tied_itself}
use Rattle.std.proofs.lemmas.Bool.{eqb-true, eq-eqb, ltb-true, or_left, or_right, or_cases}
use Rattle.std.proofs.lemmas.Grind.{common_steps}
use Rattle.std.proofs.lemmas.Map.Keys.{sorted_head, sorted_tail}
use Rattle.std.proofs.lemmas.Map.Lookups.{exact_unsigned}
use Rattle.std.proofs.lemmas.Map.Views.{btree_map_get_iff}
use Rattle.pcp_base.specs.Tables.{EachTwo, put}
use Rattle.pcp_base.proofs.Members.{IsIn, Contains-from_IsIn, All-from_IsIn, IsIn-map}
use Rattle.pcp_base.proofs.OrderTests.{by_tests}

pub is_at-nat : (a b : ℕ) → is_at (nat_cmp a) b ≡ (a == b)
is_at-nat a b = by_tests (nat_lt a b) (a == b) (λ less. grind (arith, common_steps))

pub number_same : (a b : ℕ) → is_at (nat_cmp a) b ≡ true → a ≡ b
number_same a b h = eqb-true a b (sym (is_at-nat a b) ∙ h)

pub same_number : (n : ℕ) → (n == n) ≡ true
same_number n = eq-eqb n n refl

pub number_self : (a : ℕ) → is_at (nat_cmp a) a ≡ true
number_self a = ap is_eq (tied_itself nat_cmp_total a)

pub false_by : (b : Bool) → (b ≡ true → ⊥) → b ≡ false
false_by true h = absurd (h refl)
false_by false h = refl

pub number_other : (a b : ℕ) → (a ≡ b → ⊥) → is_at (nat_cmp a) b ≡ false
number_other a b h = false_by (is_at (nat_cmp a) b) (λ e. h (number_same a b e))

pub greater : (n k : ℕ) → k < n → nat_cmp n k ≡ Greater
greater n k h =
    let less : nat_lt n k ≡ false = false_by (nat_lt n k) (λ e. let is : n < k = ltb-true n k e in omega (arith, is, h)) in
    let same : (n == k) ≡ false = false_by (n == k) (λ e. let is = eqb-true n k e in omega (arith, is, h)) in
    ap (λ t. cond t Less (cond (n == k) Equal Greater)) less ∙ ap (λ t. cond t Equal Greater) same

module _ {X : Type 0} where
  -- the value at a number
  abbrev pub at : List (ℕ × X) → ℕ → Option X
  at es n = lookup (is_at (nat_cmp n)) es

  pub values_append : (es : List (ℕ × X)) (n : ℕ) (y : X) → values_of (es ++ (n, y) ∷ []) ≡ values_of es ++ y ∷ []
  values_append [] n y = refl
  values_append (e ∷ es) n y = ap (λ t. e.1 ∷ t) (values_append es n y)

  -- a number above all others goes to the end
  pub insert_last : (es : List (ℕ × X)) (n : ℕ) (y : X) → AllByRecursion (λ k. k < n) (keys_of es) → insert_entry nat_cmp es n y ≡ es ++ (n, y) ∷ []
  insert_last [] n y h = refl
  insert_last (e ∷ es) n y h =
      ap (λ o. match_ordering o ((n, y) ∷ e ∷ es) ((e.0, y) ∷ es) (e ∷ insert_entry nat_cmp es n y)) (greater n e.0 h.0)
      ∙ ap (λ t. e ∷ t) (insert_last es n y h.1)

  all_step : (P : X → Type 0) (e : ℕ × X) (es : List (ℕ × X)) (n : ℕ) (x : X) (b : Bool) → P e.1 → (at es n ≡ Some x → P x) → cond b (Some e.1) (at es n) ≡ Some x → P x
  all_step P e es n x true h rest k = let same : e.1 ≡ x = cc in subst P same h
  all_step P e es n x false h rest k = rest k

  pub All-at : (P : X → Type 0) (es : List (ℕ × X)) (n : ℕ) (x : X) → AllByRecursion P (values_of es) → at es n ≡ Some x → P x
  All-at P [] n x h k = absurd (cc)
  All-at P (e ∷ es) n x h k = all_step P e es n x (is_at (nat_cmp n) e.0) h.0 (All-at P es n x h.1) k

  one_step : (p : X → Bool) (e : ℕ × X) (es : List (ℕ × X)) (n m : ℕ) (x y : X) (b c : Bool) → is_at (nat_cmp n) e.0 ≡ b → is_at (nat_cmp m) e.0 ≡ c →
      AllByRecursion (λ z. p e.1 ≡ true → p z ≡ true → ⊥) (values_of es) → (at es n ≡ Some x → at es m ≡ Some y → n ≡ m) →
      cond b (Some e.1) (at es n) ≡ Some x → cond c (Some e.1) (at es m) ≡ Some y → p x ≡ true → p y ≡ true → n ≡ m
  one_step p e es n m x y true true bn bm two rest a b hx hy = number_same n e.0 bn ∙ sym (number_same m e.0 bm)
  one_step p e es n m x y true false bn bm two rest a b hx hy =
      let same : e.1 ≡ x = cc in
      absurd (All-at (λ z. p e.1 ≡ true → p z ≡ true → ⊥) es m y two b (ap p same ∙ hx) hy)
  one_step p e es n m x y false true bn bm two rest a b hx hy =
      let same : e.1 ≡ y = cc in
      absurd (All-at (λ z. p e.1 ≡ true → p z ≡ true → ⊥) es n x two a (ap p same ∙ hy) hx)
  one_step p e es n m x y false false bn bm two rest a b hx hy = rest a b

  -- where no two pass a test, one number at most has what passes
  pub one_passes : (p : X → Bool) (es : List (ℕ × X)) (n m : ℕ) (x y : X) → EachTwo (λ a b. p a ≡ true → p b ≡ true → ⊥) (values_of es) →
      at es n ≡ Some x → at es m ≡ Some y → p x ≡ true → p y ≡ true → n ≡ m
  one_passes p [] n m x y two a b hx hy = absurd (cc)
  one_passes p (e ∷ es) n m x y two a b hx hy =
      one_step p e es n m x y (is_at (nat_cmp n) e.0) (is_at (nat_cmp m) e.0) refl refl two.0 (λ a' b'. one_passes p es n m x y two.1 a' b' hx hy) a b hx hy

  find_step : (p : X → Bool) (e : ℕ × X) (es : List (ℕ × X)) (l : X) (b : Bool) → p e.1 ≡ b →
      (find p (values_of es) ≡ Some l → (n : ℕ) × IsIn (n, l) es × (p l ≡ true)) →
      cond b (Some e.1) (find p (values_of es)) ≡ Some l → (n : ℕ) × IsIn (n, l) (e ∷ es) × (p l ≡ true)
  find_step p e es l true h rest k = let same : e.1 ≡ l = cc in (e.0, inl (ap (λ z. (e.0, z)) same), ap p (sym same) ∙ h)
  find_step p e es l false h rest k = let r = rest k in (r.0, inr r.1, r.2)

  pub find_in : (p : X → Bool) (es : List (ℕ × X)) (l : X) → find p (values_of es) ≡ Some l → (n : ℕ) × IsIn (n, l) es × (p l ≡ true)
  find_in p [] l h = absurd (cc)
  find_in p (e ∷ es) l h = find_step p e es l (p e.1) refl (find_in p es l) h

  pub any_in : (p : X → Bool) (es : List (ℕ × X)) → list_any p (values_of es) ≡ true → (n : ℕ) × (l : X) × IsIn (n, l) es × (p l ≡ true)
  any_in p [] h = absurd (let no : false ≡ true = h in cc)
  any_in p (e ∷ es) h = elim (or_cases _ _ h) [
    | inl a ↦ (e.0, e.1, inl refl, a)
    | inr b ↦ (let r = any_in p es b in (r.0, r.1, inr r.2, r.3))
  ]

  any_step : (p : X → Bool) (e : ℕ × X) (es : List (ℕ × X)) (n : ℕ) (l : X) (b : Bool) → (at es n ≡ Some l → list_any p (values_of es) ≡ true) → p l ≡ true →
      cond b (Some e.1) (at es n) ≡ Some l → list_any p (values_of (e ∷ es)) ≡ true
  any_step p e es n l true rest h k = let same : e.1 ≡ l = cc in or_left _ _ (ap p same ∙ h)
  any_step p e es n l false rest h k = or_right _ _ (rest k)

  pub any_at : (p : X → Bool) (es : List (ℕ × X)) (n : ℕ) (l : X) → at es n ≡ Some l → p l ≡ true → list_any p (values_of es) ≡ true
  any_at p [] n l a h = absurd (cc)
  any_at p (e ∷ es) n l a h = any_step p e es n l (is_at (nat_cmp n) e.0) (λ a'. any_at p es n l a' h) h a

  none_step : (p : X → Bool) (e : ℕ × X) (es : List (ℕ × X)) (n : ℕ) (l : X) (b c : Bool) → p e.1 ≡ c → (at es n ≡ Some l → find p (values_of es) ≡ None → p l ≡ false) →
      cond b (Some e.1) (at es n) ≡ Some l → cond c (Some e.1) (find p (values_of es)) ≡ None → p l ≡ false
  none_step p e es n l b true h rest a k = absurd (let no : Some e.1 ≡ None = k in cc)
  none_step p e es n l true false h rest a k = let same : e.1 ≡ l = cc in ap p (sym same) ∙ h
  none_step p e es n l false false h rest a k = rest a k

  pub find_none_at : (p : X → Bool) (es : List (ℕ × X)) (n : ℕ) (l : X) → at es n ≡ Some l → find p (values_of es) ≡ None → p l ≡ false
  find_none_at p [] n l a k = absurd (cc)
  find_none_at p (e ∷ es) n l a k = none_step p e es n l (is_at (nat_cmp n) e.0) (p e.1) refl (find_none_at p es n l) a k

  -- an entry is found by its number
  pub entry_at : (m : BTreeMap ℕ X) → IsOrdered nat_cmp m → (n : ℕ) (x : X) → IsIn (n, x) m.entries → get nat_cmp m n ≡ Some x
  entry_at m ordered n x h = (btree_map_get_iff nat_cmp_total exact_unsigned m ordered n x).1 (Contains-from_IsIn m.entries (n, x) h)

  find_cases : (p : X → Bool) (m : BTreeMap ℕ X) → IsOrdered nat_cmp m → (n : ℕ) (l : X) → get nat_cmp m n ≡ Some l → p l ≡ true →
      ((k : ℕ) (x : X) → get nat_cmp m k ≡ Some x → p x ≡ true → n ≡ k) → (r : Option X) → find p (values_of m.entries) ≡ r → r ≡ Some l
  find_cases p m ordered n l a h one None k = absurd (let no : p l ≡ false = find_none_at p m.entries n l a k in cc)
  find_cases p m ordered n l a h one (Some x) k =
      let r = find_in p m.entries x k in
      let b : get nat_cmp m r.0 ≡ Some x = entry_at m ordered r.0 x r.1 in
      let same : n ≡ r.0 = one r.0 x b r.2 in
      let c : get nat_cmp m r.0 ≡ Some l = ap (get nat_cmp m) (sym same) ∙ a in
      sym b ∙ c

  -- what alone passes a test is found
  pub find_is : (p : X → Bool) (m : BTreeMap ℕ X) → IsOrdered nat_cmp m → (n : ℕ) (l : X) → get nat_cmp m n ≡ Some l → p l ≡ true →
      ((k : ℕ) (x : X) → get nat_cmp m k ≡ Some x → p x ≡ true → n ≡ k) → find p (values_of m.entries) ≡ Some l
  find_is p m ordered n l a h one = find_cases p m ordered n l a h one (find p (values_of m.entries)) refl

  none_cases : (p : X → Bool) (m : BTreeMap ℕ X) → IsOrdered nat_cmp m → ((k : ℕ) (x : X) → get nat_cmp m k ≡ Some x → p x ≡ true → ⊥) → (r : Option X) → find p (values_of m.entries) ≡ r → r ≡ None
  none_cases p m ordered none None k = refl
  none_cases p m ordered none (Some x) k = let r = find_in p m.entries x k in absurd (none r.0 x (entry_at m ordered r.0 x r.1) r.2)

  -- where nothing passes, nothing is found
  pub find_none : (p : X → Bool) (m : BTreeMap ℕ X) → IsOrdered nat_cmp m → ((k : ℕ) (x : X) → get nat_cmp m k ≡ Some x → p x ≡ true → ⊥) → find p (values_of m.entries) ≡ None
  find_none p m ordered none = none_cases p m ordered none (find p (values_of m.entries)) refl

  -- the test passes at one number alone
  abbrev pub PassesAt : (X → Bool) → ℕ → List (ℕ × X) → Type 0
  PassesAt p n es = AllByRecursion (λ e. p e.1 ≡ is_at (nat_cmp n) e.0) es

  passes_step : (p : X → Bool) (m : BTreeMap ℕ X) (n k : ℕ) (l x : X) (b : Bool) → is_at (nat_cmp n) k ≡ b → get nat_cmp m n ≡ Some l → p l ≡ true → get nat_cmp m k ≡ Some x →
      (p x ≡ true → n ≡ k) → p x ≡ b
  passes_step p m n k l x true e a h c one =
      let same : n ≡ k = number_same n k e in
      let d : get nat_cmp m k ≡ Some l = ap (get nat_cmp m) (sym same) ∙ a in
      let is : x ≡ l = (let both : Some x ≡ Some l = sym c ∙ d in cc) in
      ap p is ∙ h
  passes_step p m n k l x false e a h c one = false_by (p x) (λ t.
      let same : n ≡ k = one t in
      let yes : is_at (nat_cmp n) k ≡ true = ap (λ (z : ℕ). is_at (nat_cmp n) z) (sym same) ∙ number_self n in
      absurd (let no : true ≡ false = sym yes ∙ e in cc))

  pub passes_at : (p : X → Bool) (m : BTreeMap ℕ X) → IsOrdered nat_cmp m → (n : ℕ) (l : X) → get nat_cmp m n ≡ Some l → p l ≡ true →
      ((k : ℕ) (x : X) → get nat_cmp m k ≡ Some x → p x ≡ true → n ≡ k) → PassesAt p n m.entries
  passes_at p m ordered n l a h one = All-from_IsIn (λ e. p e.1 ≡ is_at (nat_cmp n) e.0) m.entries (λ e i.
      let c : get nat_cmp m e.0 ≡ Some e.1 = entry_at m ordered e.0 e.1 i in
      passes_step p m n e.0 l e.1 (is_at (nat_cmp n) e.0) refl a h c (one e.0 e.1 c))

  put_step : (p : X → Bool) (y : X) (e : ℕ × X) (es : List (ℕ × X)) (n : ℕ) (b : Bool) → p e.1 ≡ b → (b ≡ false → values_of (set_value (is_at (nat_cmp n)) es y) ≡ put p y (values_of es)) →
      values_of (cond b ((e.0, y) ∷ es) (e ∷ set_value (is_at (nat_cmp n)) es y)) ≡ put p y (values_of (e ∷ es))
  put_step p y e es n true h rest = ap (λ t. cond t (y ∷ values_of es) (e.1 ∷ put p y (values_of es))) (sym h)
  put_step p y e es n false h rest = ap (λ t. e.1 ∷ t) (rest refl) ∙ ap (λ t. cond t (y ∷ values_of es) (e.1 ∷ put p y (values_of es))) (sym h)

  -- to write a value at a number is to put it in the place of the one that passes
  pub set_value-put : (p : X → Bool) (y : X) (es : List (ℕ × X)) (n : ℕ) (l : X) → PassesAt p n es → at es n ≡ Some l → values_of (set_value (is_at (nat_cmp n)) es y) ≡ put p y (values_of es)
  set_value-put p y [] n l h a = absurd (cc)
  set_value-put p y (e ∷ es) n l h a = put_step p y e es n (is_at (nat_cmp n) e.0) h.0 (λ f.
      set_value-put p y es n l h.1 (ap (λ t. cond t (Some e.1) (at es n)) (sym f) ∙ a))

  filter_all : (p : X → Bool) (es : List (ℕ × X)) (n : ℕ) → PassesAt p n es → AllByRecursion (λ k. nat_cmp n k ≡ Less) (keys_of es) → filter (λ x. not (p x)) (values_of es) ≡ values_of es
  filter_all p [] n h less = refl
  filter_all p (e ∷ es) n h less =
      let no : p e.1 ≡ false = h.0 ∙ ap is_eq less.0 in
      ap (λ t. cond (not t) (e.1 ∷ filter (λ x. not (p x)) (values_of es)) (filter (λ x. not (p x)) (values_of es))) no
      ∙ ap (λ t. e.1 ∷ t) (filter_all p es n h.1 less.1)

  filter_step : (p : X → Bool) (e : ℕ × X) (es : List (ℕ × X)) (n : ℕ) (b : Bool) → p e.1 ≡ b → (b ≡ true → filter (λ x. not (p x)) (values_of es) ≡ values_of es) →
      values_of (remove_entry (is_at (nat_cmp n)) es) ≡ filter (λ x. not (p x)) (values_of es) →
      values_of (cond b es (e ∷ remove_entry (is_at (nat_cmp n)) es)) ≡ filter (λ x. not (p x)) (values_of (e ∷ es))
  filter_step p e es n true h rest ih =
      sym (rest refl) ∙ ap (λ t. cond (not t) (e.1 ∷ filter (λ x. not (p x)) (values_of es)) (filter (λ x. not (p x)) (values_of es))) (sym h)
  filter_step p e es n false h rest ih =
      ap (λ t. e.1 ∷ t) ih ∙ ap (λ t. cond (not t) (e.1 ∷ filter (λ x. not (p x)) (values_of es)) (filter (λ x. not (p x)) (values_of es))) (sym h)

  -- to take out a number is to take out what passes
  pub remove_entry-filter : (p : X → Bool) (es : List (ℕ × X)) (n : ℕ) → PassesAt p n es → IsStrictlySortedBy nat_cmp (keys_of es) →
      values_of (remove_entry (is_at (nat_cmp n)) es) ≡ filter (λ x. not (p x)) (values_of es)
  remove_entry-filter p [] n h sorted = refl
  remove_entry-filter p (e ∷ es) n h sorted =
      filter_step p e es n (is_at (nat_cmp n) e.0) h.0 (λ t.
      let same : e.0 ≡ n = sym (number_same n e.0 t) in
      filter_all p es n h.1 (subst (λ (z : ℕ). AllByRecursion (λ k. nat_cmp z k ≡ Less) (keys_of es)) same (sorted_head nat_cmp e.0 (keys_of es) sorted)))
      (remove_entry-filter p es n h.1 (sorted_tail nat_cmp e.0 (keys_of es) sorted))

  -- where all numbers are below one, so are the keys
  pub keys_below : (m : BTreeMap ℕ X) → IsOrdered nat_cmp m → (n : ℕ) → ((k : ℕ) (x : X) → get nat_cmp m k ≡ Some x → k < n) → AllByRecursion (λ k. k < n) (keys_of m.entries)
  keys_below m ordered n below = All-from_IsIn (λ k. k < n) (keys_of m.entries) (λ k h.
      let r = IsIn-map (λ (e : ℕ × X). e.0) m.entries k h in
      subst (λ (z : ℕ). z < n) r.2 (below r.0.0 r.0.1 (entry_at m ordered r.0.0 r.0.1 r.1)))

  -- nothing passes in the list where nothing does at any number
  pub none_passes : (p : X → Bool) (m : BTreeMap ℕ X) → IsOrdered nat_cmp m → ((k : ℕ) (x : X) → get nat_cmp m k ≡ Some x → p x ≡ true → ⊥) → AllByRecursion (λ x. p x ≡ false) (values_of m.entries)
  none_passes p m ordered none = All-from_IsIn (λ x. p x ≡ false) (values_of m.entries) (λ x h.
      let r = IsIn-map (λ (e : ℕ × X). e.1) m.entries x h in
      let no : p r.0.1 ≡ false = false_by (p r.0.1) (none r.0.0 r.0.1 (entry_at m ordered r.0.0 r.0.1 r.1)) in
      ap p (sym r.2) ∙ no)

-- two tests that hold of each other
pub same_tests : (a b : Bool) → (a ≡ true → b ≡ true) → (b ≡ true → a ≡ true) → a ≡ b
same_tests true b f g = sym (f refl)
same_tests false b f g = sym (false_by b (λ t. let both : false ≡ true = g t in cc))

pub some_of : {X : Type 0} (o : Option X) → IsSome o → (x : X) × (o ≡ Some x)
some_of None h = absurd (let no : false ≡ true = h in cc)
some_of (Some x) h = (x, refl)

-- what stands in the list has a number
pub value-entry : {X : Type 0} (es : List (ℕ × X)) (y : X) → IsIn y (values_of es) → (n : ℕ) × IsIn (n, y) es
value-entry [] y h = absurd h
value-entry {X} (e ∷ es) y h = elim h [
  | inl same ↦ (e.0, inl (ap (λ (z : X). (e.0, z)) same))
  | inr later ↦ (let r = value-entry es y later in (r.0, inr r.1))
]
