-- Entries of an ordered map after one came, changed or went.
use Rattle.std.proofs.Common.{◌≡◌, ℕ, ◌+◌, ◌<◌, Bool, true, false, cond, List, [], ◌∷◌, Option, Some, None, refl, sym, ap, ◌∙◌, subst, inl, inr, arith, count_by}
use Rattle.std.specs.List.Sorted.{IsStrictlySortedBy}
use Rattle.std.specs.Map.{lookup, set_value, remove_entry, keys_of}
use Rattle.std.specs.Ordering.{is_eq, match_ordering}
use Rattle.std.specs.declared.cmp.Ordering.{Ordering}
use Rattle.std.specs.declared.cmp.Ordering.TheVariants.{Less, Equal, Greater}
use Rattle.std.specs.Cmp.{IsTotalOrder}
use Rattle.std.specs.BTreeMap.{BTreeMap, get, is_at, insert_entry}
use Rattle.std.proofs.lemmas.Cmp.{tied_itself}
use Rattle.std.proofs.lemmas.List.Sums.{sum_by-cons}
use Rattle.std.proofs.lemmas.Map.Keys.{sorted_tail}
use Rattle.std.proofs.lemmas.Map.Lookups.{CmpEqualImpliesEq}
use Rattle.std.proofs.lemmas.Map.{lookup-none}
use Rattle.std.proofs.lemmas.Map.Entries.{none_below_head}
use Rattle.pcp_base.proofs.Members.{IsIn}
use Rattle.ordered_index.specs.MapSteps.{Enters, HasEntry, restored}

-- 1 for what passes
abbrev pub tally : Bool → ℕ
tally b = cond {A = ℕ} b 1 0

pub count-cons : {X : Type 0} (p : X → Bool) (x : X) (xs : List X) → count_by p (x ∷ xs) ≡ tally (p x) + count_by p xs
count-cons p x xs = sum_by-cons (λ y. cond {A = ℕ} (p y) 1 0) x xs

tally-true : (b : Bool) → b ≡ true → tally b ≡ 1
tally-true b h = ap tally h

-- what is counted is there
pub count-some : {X : Type 0} (p : X → Bool) (xs : List X) (x : X) → IsIn x xs → p x ≡ true → 0 < count_by p xs
count-some p [] x h t = absurd h
count-some p (y ∷ ys) x h t =
    let all = count-cons p y ys in
    elim h [
      | inl same ↦ (let one : tally (p y) ≡ 1 = tally-true (p y) (ap p same ∙ t) in omega (arith, all, one))
      | inr later ↦ (let rest = count-some p ys x later t in omega (arith, all, rest))
    ]

-- two that pass are counted
pub two-counted : {X : Type 0} (p : X → Bool) (xs : List X) (x y : X) → IsIn x xs → IsIn y xs → (x ≡ y → ⊥) → p x ≡ true → p y ≡ true → 1 < count_by p xs
two-counted p [] x y hx hy other px py = absurd hx
two-counted p (z ∷ zs) x y hx hy other px py =
    let all = count-cons p z zs in
    elim hx [
      | inl x_is ↦ (let one : tally (p z) ≡ 1 = tally-true (p z) (ap p x_is ∙ px) in
          elim hy [
            | inl y_is ↦ absurd (other (sym x_is ∙ y_is))
            | inr y_later ↦ (let rest = count-some p zs y y_later py in omega (arith, all, one, rest))
          ])
      | inr x_later ↦ (let rest = count-some p zs x x_later px in
          elim hy [
            | inl y_is ↦ (let one : tally (p z) ≡ 1 = tally-true (p z) (ap p y_is ∙ py) in omega (arith, all, one, rest))
            | inr y_later ↦ (let two = two-counted p zs x y x_later y_later other px py in omega (arith, all, two))
          ])
    ]

some_step : {X : Type 0} (p : X → Bool) (y : X) (ys : List X) (b : Bool) → p y ≡ b → (0 < count_by p ys → (x : X) × IsIn x ys × (p x ≡ true)) → 0 < tally b + count_by p ys → (x : X) × IsIn x (y ∷ ys) × (p x ≡ true)
some_step p y ys true e rest h = (y, inl refl, e)
some_step p y ys false e rest h =
    let positive : 0 < 0 + count_by p ys = h in
    let r = rest (omega (arith, positive)) in (r.0, inr r.1, r.2)

pub some-counted : {X : Type 0} (p : X → Bool) (xs : List X) → 0 < count_by p xs → (x : X) × IsIn x xs × (p x ≡ true)
some-counted p [] h = absurd (let no : 0 < 0 = h in omega (arith, no))
some-counted p (y ∷ ys) h =
    some_step p y ys (p y) refl (some-counted p ys) (subst (λ n. 0 < n) (count-cons p y ys) h)

pub none_some : {X : Type 0} (o : Option X) (x : X) → o ≡ None → o ≡ Some x → ⊥
none_some o x a b = let both : None ≡ Some x = sym a ∙ b in cc

pub some_one : {X : Type 0} (o : Option X) (x y : X) → o ≡ Some x → o ≡ Some y → x ≡ y
some_one o x y a b = let both : Some x ≡ Some y = sym a ∙ b in cc

pub none_by : {X : Type 0} (o : Option X) → ((x : X) → o ≡ Some x → ⊥) → o ≡ None
none_by None h = refl
none_by (Some x) h = absurd (h x refl)

pub equal : (q : Ordering) → is_eq q ≡ true → q ≡ Equal
equal Less t = absurd (let no : false ≡ true = t in cc)
equal Equal t = refl
equal Greater t = absurd (let no : false ≡ true = t in cc)

pub key-self : {K : Type 0} {R : K → K → Ordering} (o : IsTotalOrder R) (k : K) → is_at (R k) k ≡ true
key-self o k = ap is_eq (tied_itself o k)

module _ {K V : Type 0} {R : K → K → Ordering} (o : IsTotalOrder R) (k : K) where
  abbrev at : List (K × V) → Option V
  at es = lookup (is_at (R k)) es

  -- what the step of an insertion makes
  abbrev placed : Ordering → V → K × V → List (K × V) → List (K × V)
  placed p v e es = match_ordering p ((k, v) ∷ e ∷ es) ((e.0, v) ∷ es) (e ∷ insert_entry R es k v)

  undone_step : (v : V) (e : K × V) (es : List (K × V)) (p : Ordering) → R k e.0 ≡ p → (at es ≡ None → remove_entry (is_at (R k)) (insert_entry R es k v) ≡ es) →
      cond (is_eq p) (Some e.1) (at es) ≡ None → remove_entry (is_at (R k)) (placed p v e es) ≡ e ∷ es
  undone_step v e es Less h rest free = ap (λ t. cond t (e ∷ es) ((k, v) ∷ remove_entry (is_at (R k)) (e ∷ es))) (key-self o k)
  undone_step v e es Equal h rest free = absurd (let no : Some e.1 ≡ None = free in cc)
  undone_step v e es Greater h rest free =
      ap (λ t. cond (is_eq t) (insert_entry R es k v) (e ∷ remove_entry (is_at (R k)) (insert_entry R es k v))) h ∙ ap (λ t. e ∷ t) (rest free)

  -- what was inserted anew is taken out
  pub removed-inserted : (v : V) (es : List (K × V)) → at es ≡ None → remove_entry (is_at (R k)) (insert_entry R es k v) ≡ es
  removed-inserted v [] free = ap (λ t. cond t [] ((k, v) ∷ [])) (key-self o k)
  removed-inserted v (e ∷ es) free = undone_step v e es (R k e.0) refl (removed-inserted v es) free

  below_all : (e : K × V) (es : List (K × V)) → IsStrictlySortedBy R (keys_of (e ∷ es)) → R k e.0 ≡ Less → at (e ∷ es) ≡ None
  below_all e es sorted less = lookup-none (is_at (R k)) (e ∷ es) (none_below_head o k e es sorted less)

  found_step : (v w : V) (e : K × V) (es : List (K × V)) (p : Ordering) → R k e.0 ≡ p → IsStrictlySortedBy R (keys_of (e ∷ es)) → (at es ≡ Some w → set_value (is_at (R k)) (insert_entry R es k v) w ≡ es) →
      at (e ∷ es) ≡ Some w → set_value (is_at (R k)) (placed p v e es) w ≡ e ∷ es
  found_step v w e es Less h sorted rest found = absurd (none_some (at (e ∷ es)) w (below_all e es sorted h) found)
  found_step v w e es Equal h sorted rest found =
      let here : cond (is_eq Equal) (Some e.1) (at es) ≡ Some w = ap (λ t. cond (is_eq t) (Some e.1) (at es)) (sym h) ∙ found in
      let same : e.1 ≡ w = (let both : Some e.1 ≡ Some w = here in cc) in
      ap (λ t. cond (is_eq t) ((e.0, w) ∷ es) ((e.0, v) ∷ set_value (is_at (R k)) es w)) h ∙ ap (λ z. (e.0, z) ∷ es) (sym same)
  found_step v w e es Greater h sorted rest found =
      let later : cond (is_eq Greater) (Some e.1) (at es) ≡ Some w = ap (λ t. cond (is_eq t) (Some e.1) (at es)) (sym h) ∙ found in
      ap (λ t. cond (is_eq t) ((e.0, w) ∷ insert_entry R es k v) (e ∷ set_value (is_at (R k)) (insert_entry R es k v) w)) h ∙ ap (λ t. e ∷ t) (rest later)

  set-inserted : (v w : V) (es : List (K × V)) → IsStrictlySortedBy R (keys_of es) → at es ≡ Some w → set_value (is_at (R k)) (insert_entry R es k v) w ≡ es
  set-inserted v w [] sorted found = absurd (let no : None ≡ Some w = found in cc)
  set-inserted v w (e ∷ es) sorted found =
      found_step v w e es (R k e.0) refl sorted (set-inserted v w es (sorted_tail R e.0 (keys_of es) sorted)) found

  -- what was inserted is undone by what was there before
  pub restored-inserted : (v : V) (es : List (K × V)) → IsStrictlySortedBy R (keys_of es) → (old : Option V) → at es ≡ old → restored R k old (insert_entry R es k v) ≡ es
  restored-inserted v es sorted None h = removed-inserted v es h
  restored-inserted v es sorted (Some w) h = set-inserted v w es sorted h

  same_step : (v : V) (e : K × V) (es : List (K × V)) (p : Ordering) → R k e.0 ≡ p → IsStrictlySortedBy R (keys_of (e ∷ es)) → (at es ≡ Some v → insert_entry R es k v ≡ es) →
      at (e ∷ es) ≡ Some v → placed p v e es ≡ e ∷ es
  same_step v e es Less h sorted rest found = absurd (none_some (at (e ∷ es)) v (below_all e es sorted h) found)
  same_step v e es Equal h sorted rest found =
      let here : cond (is_eq Equal) (Some e.1) (at es) ≡ Some v = ap (λ t. cond (is_eq t) (Some e.1) (at es)) (sym h) ∙ found in
      let same : v ≡ e.1 = (let both : Some e.1 ≡ Some v = here in cc) in
      ap (λ z. (e.0, z) ∷ es) same
  same_step v e es Greater h sorted rest found =
      let later : cond (is_eq Greater) (Some e.1) (at es) ≡ Some v = ap (λ t. cond (is_eq t) (Some e.1) (at es)) (sym h) ∙ found in
      ap (λ t. e ∷ t) (rest later)

  -- what is there already changes nothing
  pub inserted-same : (v : V) (es : List (K × V)) → IsStrictlySortedBy R (keys_of es) → at es ≡ Some v → insert_entry R es k v ≡ es
  inserted-same v [] sorted found = absurd (let no : None ≡ Some v = found in cc)
  inserted-same v (e ∷ es) sorted found =
      same_step v e es (R k e.0) refl sorted (inserted-same v es (sorted_tail R e.0 (keys_of es) sorted)) found

  other_step : (from : K) (v : V) (e : K × V) (es : List (K × V)) (q : Ordering) → CmpEqualImpliesEq R → R k e.0 ≡ q → is_at (R from) k ≡ false → (lookup (is_at (R from)) (insert_entry R es k v) ≡ lookup (is_at (R from)) es) →
      lookup (is_at (R from)) (placed q v e es) ≡ lookup (is_at (R from)) (e ∷ es)
  other_step from v e es Less exact h other rest = ap (λ t. cond t (Some v) (lookup (is_at (R from)) (e ∷ es))) other
  other_step from v e es Equal exact h other rest =
      let here : is_at (R from) e.0 ≡ false = ap (λ z. is_at (R from) z) (sym (exact k e.0 h)) ∙ other in
      ap (λ t. cond t (Some v) (lookup (is_at (R from)) es)) here ∙ ap (λ t. cond t (Some e.1) (lookup (is_at (R from)) es)) (sym here)
  other_step from v e es Greater exact h other rest = ap (λ o'. cond (is_at (R from) e.0) (Some e.1) o') rest

  -- another key has what it had
  pub lookup-inserted : CmpEqualImpliesEq R → (from : K) (v : V) (es : List (K × V)) → is_at (R from) k ≡ false → lookup (is_at (R from)) (insert_entry R es k v) ≡ lookup (is_at (R from)) es
  lookup-inserted exact from v [] other = ap (λ t. cond t (Some v) None) other
  lookup-inserted exact from v (e ∷ es) other = other_step from v e es (R k e.0) exact refl other (lookup-inserted exact from v es other)

  module _ (p : K × V → Bool) where
    more_step : (v : V) (e : K × V) (es : List (K × V)) (q : Ordering) → R k e.0 ≡ q → (at es ≡ None → count_by p (insert_entry R es k v) ≡ count_by p es + tally (p (k, v))) →
        cond (is_eq q) (Some e.1) (at es) ≡ None → count_by p (placed q v e es) ≡ count_by p (e ∷ es) + tally (p (k, v))
    more_step v e es Less h rest free = let new = count-cons p (k, v) (e ∷ es) in omega (arith, new)
    more_step v e es Equal h rest free = absurd (let no : Some e.1 ≡ None = free in cc)
    more_step v e es Greater h rest free =
        let new = count-cons p e (insert_entry R es k v) in let old = count-cons p e es in let more = rest free in omega (arith, new, old, more)

    -- one entry more
    pub count-inserted : (v : V) (es : List (K × V)) → at es ≡ None → count_by p (insert_entry R es k v) ≡ count_by p es + tally (p (k, v))
    count-inserted v [] free = let new = count-cons p (k, v) [] in omega (arith, new)
    count-inserted v (e ∷ es) free = more_step v e es (R k e.0) refl (count-inserted v es) free

    module _ (exact : CmpEqualImpliesEq R) where
      is_here : (e : K × V) (v : V) → is_eq (R k e.0) ≡ true → Some e.1 ≡ Some v → e ≡ (k, v)
      is_here e v t found =
          let key : k ≡ e.0 = exact k e.0 (equal (R k e.0) t) in
          let value : e.1 ≡ v = cc in
          ap (λ z. (z, e.1)) (sym key) ∙ ap (λ z. (k, z)) value

      less_step : (v : V) (e : K × V) (es : List (K × V)) (b : Bool) → is_at (R k) e.0 ≡ b → (at es ≡ Some v → count_by p (remove_entry (is_at (R k)) es) + tally (p (k, v)) ≡ count_by p es) →
          cond b (Some e.1) (at es) ≡ Some v → count_by p (cond b es (e ∷ remove_entry (is_at (R k)) es)) + tally (p (k, v)) ≡ count_by p (e ∷ es)
      less_step v e es true h rest found =
          let old = count-cons p e es in
          let one : tally (p e) ≡ tally (p (k, v)) = ap (λ z. tally (p z)) (is_here e v h found) in
          omega (arith, old, one)
      less_step v e es false h rest found =
          let new = count-cons p e (remove_entry (is_at (R k)) es) in let old = count-cons p e es in let less = rest found in omega (arith, new, old, less)

      -- one entry less
      pub count-removed : (v : V) (es : List (K × V)) → at es ≡ Some v → count_by p (remove_entry (is_at (R k)) es) + tally (p (k, v)) ≡ count_by p es
      count-removed v [] found = absurd (let no : None ≡ Some v = found in cc)
      count-removed v (e ∷ es) found = less_step v e es (is_at (R k) e.0) refl (count-removed v es) found

      set_step : (v w : V) (e : K × V) (es : List (K × V)) (b : Bool) → is_at (R k) e.0 ≡ b → (at es ≡ Some v → count_by p (set_value (is_at (R k)) es w) + tally (p (k, v)) ≡ count_by p es + tally (p (k, w))) →
          cond b (Some e.1) (at es) ≡ Some v → count_by p (cond b ((e.0, w) ∷ es) (e ∷ set_value (is_at (R k)) es w)) + tally (p (k, v)) ≡ count_by p (e ∷ es) + tally (p (k, w))
      set_step v w e es true h rest found =
          let old = count-cons p e es in
          let new = count-cons p (e.0, w) es in
          let one : tally (p e) ≡ tally (p (k, v)) = ap (λ z. tally (p z)) (is_here e v h found) in
          let key : e.0 ≡ k = sym (exact k e.0 (equal (R k e.0) h)) in
          let other : tally (p (e.0, w)) ≡ tally (p (k, w)) = ap (λ z. tally (p (z, w))) key in
          omega (arith, old, new, one, other)
      set_step v w e es false h rest found =
          let new = count-cons p e (set_value (is_at (R k)) es w) in let old = count-cons p e es in let less = rest found in omega (arith, new, old, less)

      -- one entry in place of another
      pub count-set : (v w : V) (es : List (K × V)) → at es ≡ Some v → count_by p (set_value (is_at (R k)) es w) + tally (p (k, v)) ≡ count_by p es + tally (p (k, w))
      count-set v w [] found = absurd (let no : None ≡ Some v = found in cc)
      count-set v w (e ∷ es) found = set_step v w e es (is_at (R k) e.0) refl (count-set v w es) found

-- two keys that are the same to the order
module _ {K V : Type 0} {R : K → K → Ordering} (o : IsTotalOrder R) (from to : K) (same : is_eq (R from to) ≡ true) where
  lookup_tied : (es : List (K × V)) → lookup (is_at (R to)) es ≡ lookup (is_at (R from)) es
  lookup_tied [] = refl
  lookup_tied (e ∷ es) =
      ap (λ q. cond (is_eq q) (Some e.1) (lookup (is_at (R to)) es)) (sym (o.congr from to e.0 (equal (R from to) same)))
      ∙ ap (λ r. cond (is_at (R from) e.0) (Some e.1) r) (lookup_tied es)

  module _ (it : BTreeMap K V) (v : V) (there : HasEntry R it from v) where
    pub tied-found : get R it to ≡ Some v
    tied-found = lookup_tied it.entries ∙ there.found

    pub tied-enters : Enters R it it to v
    tied-enters = record {
      entries = sym (inserted-same o to v it.entries there.ordered tied-found);
      found = tied-found;
      ordered = there.ordered;
      was_ordered = there.ordered;
    }
