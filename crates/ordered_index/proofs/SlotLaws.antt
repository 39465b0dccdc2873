-- Leases in slots after one came, changed or went.
use Rattle.std.specs.Prelude.{⊤, is_some}
use Rattle.std.proofs.Common.{◌≡◌, ℕ, ◌%◌, ◌==◌, ◌⊎◌, Bool, true, false, cond, List, [], ◌∷◌, length, Option, Some, None, IsSome, IfSome, refl, sym, ap, ◌∙◌, subst, inl, inr}
use Rattle.std.specs.Borrow.{Bor}
use Rattle.std.specs.Option.{option_copied}
use Rattle.std.specs.List.{AllByRecursion, cons_option, filter_map}
use Rattle.std.specs.List.Sorted.{IsStrictlySortedBy}
use Rattle.std.specs.Map.{lookup, set_value, remove_entry, keys_of, values_of}
use Rattle.std.specs.Ordering.{nat_cmp, is_eq, match_ordering}
use Rattle.std.specs.declared.cmp.Ordering.{Ordering}
use Rattle.std.specs.declared.cmp.Ordering.TheVariants.{Less, Equal, Greater}
use Rattle.std.specs.BTreeMap.{BTreeMap, IsOrdered, btree_map_len, get, is_at, insert_entry, keys, values}
use Rattle.std.proofs.lemmas.Bool.{eqb-true, eq-eqb}
use Rattle.std.proofs.lemmas.Map.Entries.{length-keys_of}
use Rattle.std.proofs.lemmas.Map.Keys.{sorted_head, sorted_tail}
use Rattle.pcp_base.proofs.Members.{All-from_IsIn, All-weaker, IsIn-map}
use Rattle.slab.specs.Slab as slab
use Rattle.ordered_index.specs.declared.slots.TheConstants.{MOST_SLOTS}
use Rattle.ordered_index.specs.MapSteps.{Inserts, Overwrites, Removes}
use Rattle.ordered_index.specs.Slots.{AreSlots, entries_of, lease_at, lease_of, leases_of, with_lease}
use Rattle.ordered_index.proofs.Entries.{entry_at, false_by, number_other, number_same, number_self}

pub same_or : (a b : ℕ) → (a ≡ b) ⊎ (a ≡ b → ⊥)
same_or a b = step (a == b) refl
  where
    step : (c : Bool) → (a == b) ≡ c → (a ≡ b) ⊎ (a ≡ b → ⊥)
    step true e = inl (eqb-true a b e)
    step false e = inr (λ same. let no : true ≡ false = sym (eq-eqb a b same) ∙ e in cc)

pub none_is : {X : Type 0} (o : Option X) → is_some o ≡ false → o ≡ None
none_is None h = refl
none_is (Some x) h = absurd (let no : true ≡ false = h in cc)

-- ---- a slot
module _ {L : Type 0} where
  -- another number has no lease in a slot
  none_other : (n m : ℕ) (o : Option (ℕ × L)) → IfSome o (λ e. e.0 ≡ n) → (m ≡ n → ⊥) → lease_of m o ≡ None
  none_other n m None is other = refl
  none_other n m (Some e) is other = ap (λ t. cond t (Some e.1) None) (false_by (e.0 == m) (λ t. other (sym (eqb-true e.0 m t) ∙ is)))

  -- the number of a slot that has a lease for it
  own_step : (n : ℕ) (e : ℕ × L) (b : Bool) → (e.0 == n) ≡ b → IsSome (cond b (Some e.1) None) → e.0 ≡ n
  own_step n e true h some = eqb-true e.0 n h
  own_step n e false h some = absurd (let no : false ≡ true = some in cc)

  pub own : (n : ℕ) (o : Option (ℕ × L)) → IsSome (lease_of n o) → IsSome o × IfSome o (λ e. e.0 ≡ n)
  own n None some = absurd (let no : false ≡ true = some in cc)
  own n (Some e) some = (refl, own_step n e (e.0 == n) refl some)

  pub own_lease : (n : ℕ) (e : ℕ × L) → e.0 ≡ n → lease_of n (Some e) ≡ Some e.1
  own_lease n e same = ap (λ t. cond t (Some e.1) None) (eq-eqb e.0 n same)

  entry_step : (n : ℕ) (l : L) (e : ℕ × L) (b : Bool) → (e.0 == n) ≡ b → cond b (Some e.1) None ≡ Some l → e ≡ (n, l)
  entry_step n l e true h is =
      let number : e.0 ≡ n = eqb-true e.0 n h in
      let lease : e.1 ≡ l = cc in
      ap (λ z. (z, e.1)) number ∙ ap (λ z. (n, z)) lease
  entry_step n l e false h is = absurd (let no : None ≡ Some l = is in cc)

  pub own_entry : (n : ℕ) (l : L) (o : Option (ℕ × L)) → lease_of n o ≡ Some l → o ≡ Some (n, l)
  own_entry n l None is = absurd (let no : None ≡ Some l = is in cc)
  own_entry n l (Some e) is = ap Some (entry_step n l e (e.0 == n) refl is)

  named_by : (o : Option (ℕ × L)) (n slot : ℕ) → IfSome o (λ e. e.0 ≡ n) → n % MOST_SLOTS ≡ slot → IfSome o (λ e. e.0 % MOST_SLOTS ≡ slot)
  named_by None n slot is key = tt
  named_by (Some e) n slot is key = ap (λ m. m % MOST_SLOTS) is ∙ key

  -- what stands in a slot has a number that names it
  abbrev pub AreNamed : slab.Slab (ℕ × L) → Type 0
  AreNamed s = (slot : ℕ) → IfSome (slab.get s slot) (λ e. e.0 % MOST_SLOTS ≡ slot)

  -- so it is after a slot was changed
  pub named-updated : (old new : slab.Slab (ℕ × L)) (n : ℕ) (o : Option (ℕ × L)) → AreNamed old → slab.Updates old new (n % MOST_SLOTS) o → IfSome o (λ e. e.0 ≡ n) → AreNamed new
  named-updated old new n o named updates is slot = elim (same_or slot (n % MOST_SLOTS)) [
    | inl same ↦ subst (λ (q : Option (ℕ × L)). IfSome q (λ e. e.0 % MOST_SLOTS ≡ slot)) (sym (ap (slab.get new) same ∙ updates.changed)) (named_by o n slot is (sym same))
    | inr apart ↦ subst (λ (q : Option (ℕ × L)). IfSome q (λ e. e.0 % MOST_SLOTS ≡ slot)) (sym (updates.others slot apart)) (named slot)
  ]

  -- a slot is changed, which is free or the number's own
  module _ (old new : slab.Slab (ℕ × L)) (n : ℕ) (slot : Option (ℕ × L)) (updates : slab.Updates old new (n % MOST_SLOTS) slot)
      (was : IfSome (slab.get old (n % MOST_SLOTS)) (λ e. e.0 ≡ n)) (is : IfSome slot (λ e. e.0 ≡ n)) where
    other_key : (m : ℕ) → (m ≡ n → ⊥) → m % MOST_SLOTS ≡ n % MOST_SLOTS → lease_at new m ≡ lease_at old m
    other_key m other key =
        ap (λ k. lease_of m (slab.get new k)) key ∙ ap (lease_of m) updates.changed ∙ none_other n m slot is other
        ∙ sym (none_other n m (slab.get old (n % MOST_SLOTS)) was other) ∙ sym (ap (λ k. lease_of m (slab.get old k)) key)

    other_lease : (m : ℕ) → (m ≡ n → ⊥) → lease_at new m ≡ lease_at old m
    other_lease m other = elim (same_or (m % MOST_SLOTS) (n % MOST_SLOTS)) [
      | inl key ↦ other_key m other key
      | inr apart ↦ ap (lease_of m) (updates.others (m % MOST_SLOTS) apart)
    ]

    abbrev IsChanged : ℕ → Type 0
    IsChanged m = lease_at new m ≡ cond (is_at (nat_cmp n) m) (lease_of n slot) (lease_at old m)

    changed_here : IsChanged n
    changed_here = ap (lease_of n) updates.changed ∙ sym (ap (λ t. cond t (lease_of n slot) (lease_at old n)) (number_self n))

    changed_other : (m : ℕ) → (m ≡ n → ⊥) → IsChanged m
    changed_other m other = other_lease m other ∙ sym (ap (λ t. cond t (lease_of n slot) (lease_at old m)) (number_other n m (λ e. other (sym e))))

    pub slot-changed : (m : ℕ) → lease_at new m ≡ cond (is_at (nat_cmp n) m) (lease_of n slot) (lease_at old m)
    slot-changed m = elim (same_or m n) [
      | inl same ↦ subst IsChanged (sym same) changed_here
      | inr other ↦ changed_other m other
    ]

-- ---- numbers with their leases
module _ {L : Type 0} (f : ℕ → Option L) where
  abbrev at_number : {X : Type 0} → ℕ → List (ℕ × X) → Option X
  at_number n es = lookup (is_at (nat_cmp n)) es

  none_either : (c : Bool) (o : Option L) → o ≡ None → cond c o None ≡ o
  none_either true o h = refl
  none_either false o h = sym h

  some_either : (c : Bool) (o : Option L) → is_some o ≡ c → cond c o None ≡ o
  some_either true o h = refl
  some_either false o h = sym (none_is o h)

  listed_step : (n : ℕ) (e : ℕ × ⊤) (es : List (ℕ × ⊤)) (b : Bool) → is_at (nat_cmp n) e.0 ≡ b → (o : Option L) → f e.0 ≡ o →
      at_number n (entries_of f es) ≡ cond (is_some (at_number n es)) (f n) None →
      at_number n (with_lease e.0 o (entries_of f es)) ≡ cond (is_some (cond b (Some e.1) (at_number n es))) (f n) None
  listed_step n e es true h None k rest = let none : f n ≡ None = ap f (number_same n e.0 h) ∙ k in rest ∙ none_either (is_some (at_number n es)) (f n) none
  listed_step n e es true h (Some l) k rest = ap (λ t. cond t (Some l) (at_number n (entries_of f es))) h ∙ sym k ∙ sym (ap f (number_same n e.0 h))
  listed_step n e es false h None k rest = rest
  listed_step n e es false h (Some l) k rest = ap (λ t. cond t (Some l) (at_number n (entries_of f es))) h ∙ rest

  listed_lookup : (n : ℕ) (es : List (ℕ × ⊤)) → at_number n (entries_of f es) ≡ cond (is_some (at_number n es)) (f n) None
  listed_lookup n [] = refl
  listed_lookup n (e ∷ es) = listed_step n e es (is_at (nat_cmp n) e.0) refl (f e.0) refl (listed_lookup n es)

  entries-lookup : (es : List (ℕ × ⊤)) → ((n : ℕ) → is_some (f n) ≡ is_some (at_number n es)) → (n : ℕ) → at_number n (entries_of f es) ≡ f n
  entries-lookup es listed n = listed_lookup n es ∙ some_either (is_some (at_number n es)) (f n) (listed n)

  -- each number has a lease
  abbrev pub AreHeld : List ℕ → Type 0
  AreHeld ns = AllByRecursion (λ n. IsSome (f n)) ns

  keys_step : (n : ℕ) (o : Option L) → IsSome o → (rest : List (ℕ × L)) (ns : List ℕ) → keys_of rest ≡ ns → keys_of (with_lease n o rest) ≡ n ∷ ns
  keys_step n None some rest ns h = absurd (let no : false ≡ true = some in cc)
  keys_step n (Some l) some rest ns h = ap (λ t. n ∷ t) h

  entries-keys : (es : List (ℕ × ⊤)) → AreHeld (keys_of es) → keys_of (entries_of f es) ≡ keys_of es
  entries-keys [] held = refl
  entries-keys (e ∷ es) held = keys_step e.0 (f e.0) held.0 (entries_of f es) (keys_of es) (entries-keys es held.1)

  values_step : (n : ℕ) (o : Option L) → f n ≡ o → (rest : List (ℕ × L)) (ns : List ℕ) → values_of rest ≡ filter_map f ns → values_of (with_lease n o rest) ≡ filter_map f (n ∷ ns)
  values_step n None k rest ns h = h ∙ sym (ap (λ o. cons_option o (filter_map f ns)) k)
  values_step n (Some l) k rest ns h = ap (λ t. l ∷ t) h ∙ sym (ap (λ o. cons_option o (filter_map f ns)) k)

  entries-values : (es : List (ℕ × ⊤)) → values_of (entries_of f es) ≡ filter_map f (keys_of es)
  entries-values [] = refl
  entries-values (e ∷ es) = values_step e.0 (f e.0) refl (entries_of f es) (keys_of es) (entries-values es)

  module _ (g : ℕ → Option L) where
    abbrev Alike : List ℕ → Type 0
    Alike ns = AllByRecursion (λ n. g n ≡ f n) ns

    entries-alike : (es : List (ℕ × ⊤)) → Alike (keys_of es) → entries_of g es ≡ entries_of f es
    entries-alike [] same = refl
    entries-alike (e ∷ es) same = ap (λ o. with_lease e.0 o (entries_of g es)) same.0 ∙ ap (with_lease e.0 (f e.0)) (entries-alike es same.1)

    -- one number is changed
    module _ (n : ℕ) (w : Option L) (changed : (m : ℕ) → g m ≡ cond (is_at (nat_cmp n) m) w (f m)) where
      abbrev Apart : List ℕ → Type 0
      Apart ns = AllByRecursion (λ m. is_at (nat_cmp n) m ≡ false) ns

      other_same : (m : ℕ) → is_at (nat_cmp n) m ≡ false → g m ≡ f m
      other_same m apart = changed m ∙ ap (λ t. cond t w (f m)) apart

      alike : (ns : List ℕ) → Apart ns → Alike ns
      alike ns apart = All-weaker (λ m. is_at (nat_cmp n) m ≡ false) (λ m. g m ≡ f m) other_same ns apart

      here_is : (m : ℕ) → is_at (nat_cmp n) m ≡ true → g m ≡ w
      here_is m here = changed m ∙ ap (λ t. cond t w (f m)) here

      -- no number behind the number itself is the same
      apart_behind : (m : ℕ) (ns : List ℕ) → is_at (nat_cmp n) m ≡ true → IsStrictlySortedBy nat_cmp (m ∷ ns) → Apart ns
      apart_behind m ns here sorted =
          All-weaker (λ k. nat_cmp m k ≡ Less) (λ k. is_at (nat_cmp n) k ≡ false) (λ k less. ap (λ (z : ℕ). is_at (nat_cmp z) k) (number_same n m here) ∙ ap is_eq less) ns
          (sorted_head nat_cmp m ns sorted)

      insert_step : (v : L) → w ≡ Some v → (e : ℕ × ⊤) (es : List (ℕ × ⊤)) (r : Ordering) → nat_cmp n e.0 ≡ r → (o : Option L) → f e.0 ≡ o → IsSome o → Apart (keys_of (e ∷ es)) →
          entries_of g (insert_entry nat_cmp es n tt) ≡ insert_entry nat_cmp (entries_of f es) n v →
          entries_of g (match_ordering r ((n, tt) ∷ e ∷ es) ((e.0, tt) ∷ es) (e ∷ insert_entry nat_cmp es n tt)) ≡ insert_entry nat_cmp (with_lease e.0 o (entries_of f es)) n v
      insert_step v is e es r h None k some apart rest = absurd (let no : false ≡ true = some in cc)
      insert_step v is e es Less h (Some l) k some apart rest =
          ap (λ o. with_lease n o (entries_of g (e ∷ es))) (here_is n (number_self n) ∙ is)
          ∙ ap (λ t. (n, v) ∷ t) (entries-alike (e ∷ es) (alike (keys_of (e ∷ es)) apart) ∙ ap (λ o. with_lease e.0 o (entries_of f es)) k)
          ∙ sym (ap (λ q. match_ordering q ((n, v) ∷ (e.0, l) ∷ entries_of f es) ((e.0, v) ∷ entries_of f es) ((e.0, l) ∷ insert_entry nat_cmp (entries_of f es) n v)) h)
      insert_step v is e es Equal h (Some l) k some apart rest = absurd (let no : true ≡ false = sym (ap is_eq h) ∙ apart.0 in cc)
      insert_step v is e es Greater h (Some l) k some apart rest =
          ap (λ o. with_lease e.0 o (entries_of g (insert_entry nat_cmp es n tt))) (other_same e.0 apart.0 ∙ k) ∙ ap (λ t. (e.0, l) ∷ t) rest
          ∙ sym (ap (λ q. match_ordering q ((n, v) ∷ (e.0, l) ∷ entries_of f es) ((e.0, v) ∷ entries_of f es) ((e.0, l) ∷ insert_entry nat_cmp (entries_of f es) n v)) h)

      entries-inserted : (v : L) → w ≡ Some v → (es : List (ℕ × ⊤)) → AreHeld (keys_of es) → Apart (keys_of es) →
          entries_of g (insert_entry nat_cmp es n tt) ≡ insert_entry nat_cmp (entries_of f es) n v
      entries-inserted v is [] held apart = ap (λ o. with_lease n o []) (here_is n (number_self n) ∙ is)
      entries-inserted v is (e ∷ es) held apart = insert_step v is e es (nat_cmp n e.0) refl (f e.0) refl held.0 apart (entries-inserted v is es held.1 apart.1)

      remove_step : w ≡ None → (e : ℕ × ⊤) (es : List (ℕ × ⊤)) (b : Bool) → is_at (nat_cmp n) e.0 ≡ b → (o : Option L) → f e.0 ≡ o → IsSome o → IsStrictlySortedBy nat_cmp (keys_of (e ∷ es)) →
          entries_of g (remove_entry (is_at (nat_cmp n)) es) ≡ remove_entry (is_at (nat_cmp n)) (entries_of f es) →
          entries_of g (cond b es (e ∷ remove_entry (is_at (nat_cmp n)) es)) ≡ remove_entry (is_at (nat_cmp n)) (with_lease e.0 o (entries_of f es))
      remove_step is e es b h None k some sorted rest = absurd (let no : false ≡ true = some in cc)
      remove_step is e es true h (Some l) k some sorted rest =
          entries-alike es (alike (keys_of es) (apart_behind e.0 (keys_of es) h sorted))
          ∙ sym (ap (λ t. cond t (entries_of f es) ((e.0, l) ∷ remove_entry (is_at (nat_cmp n)) (entries_of f es))) h)
      remove_step is e es false h (Some l) k some sorted rest =
          ap (λ o. with_lease e.0 o (entries_of g (remove_entry (is_at (nat_cmp n)) es))) (other_same e.0 h ∙ k) ∙ ap (λ t. (e.0, l) ∷ t) rest
          ∙ sym (ap (λ t. cond t (entries_of f es) ((e.0, l) ∷ remove_entry (is_at (nat_cmp n)) (entries_of f es))) h)

      entries-removed : w ≡ None → (es : List (ℕ × ⊤)) → AreHeld (keys_of es) → IsStrictlySortedBy nat_cmp (keys_of es) →
          entries_of g (remove_entry (is_at (nat_cmp n)) es) ≡ remove_entry (is_at (nat_cmp n)) (entries_of f es)
      entries-removed is [] held sorted = refl
      entries-removed is (e ∷ es) held sorted =
          remove_step is e es (is_at (nat_cmp n) e.0) refl (f e.0) refl held.0 sorted (entries-removed is es held.1 (sorted_tail nat_cmp e.0 (keys_of es) sorted))

      set_step : (v : L) → w ≡ Some v → (e : ℕ × ⊤) (es : List (ℕ × ⊤)) (b : Bool) → is_at (nat_cmp n) e.0 ≡ b → (o : Option L) → f e.0 ≡ o → IsSome o → IsStrictlySortedBy nat_cmp (keys_of (e ∷ es)) →
          entries_of g es ≡ set_value (is_at (nat_cmp n)) (entries_of f es) v →
          with_lease e.0 (g e.0) (entries_of g es) ≡ set_value (is_at (nat_cmp n)) (with_lease e.0 o (entries_of f es)) v
      set_step v is e es b h None k some sorted rest = absurd (let no : false ≡ true = some in cc)
      set_step v is e es true h (Some l) k some sorted rest =
          ap (λ o. with_lease e.0 o (entries_of g es)) (here_is e.0 h ∙ is) ∙ ap (λ t. (e.0, v) ∷ t) (entries-alike es (alike (keys_of es) (apart_behind e.0 (keys_of es) h sorted)))
          ∙ sym (ap (λ t. cond t ((e.0, v) ∷ entries_of f es) ((e.0, l) ∷ set_value (is_at (nat_cmp n)) (entries_of f es) v)) h)
      set_step v is e es false h (Some l) k some sorted rest =
          ap (λ o. with_lease e.0 o (entries_of g es)) (other_same e.0 h ∙ k) ∙ ap (λ t. (e.0, l) ∷ t) rest
          ∙ sym (ap (λ t. cond t ((e.0, v) ∷ entries_of f es) ((e.0, l) ∷ set_value (is_at (nat_cmp n)) (entries_of f es) v)) h)

      entries-set : (v : L) → w ≡ Some v → (es : List (ℕ × ⊤)) → AreHeld (keys_of es) → IsStrictlySortedBy nat_cmp (keys_of es) →
          entries_of g es ≡ set_value (is_at (nat_cmp n)) (entries_of f es) v
      entries-set v is [] held sorted = refl
      entries-set v is (e ∷ es) held sorted =
          set_step v is e es (is_at (nat_cmp n) e.0) refl (f e.0) refl held.0 sorted (entries-set v is es held.1 (sorted_tail nat_cmp e.0 (keys_of es) sorted))

-- ---- what is seen
module _ {L : Type 0} (slots : slab.Slab (ℕ × L)) (order : BTreeMap ℕ ⊤) (h : AreSlots slots order) where
  abbrev seen : BTreeMap ℕ L
  seen = leases_of slots order

  pub lease-get : (n : ℕ) → lease_at slots n ≡ get nat_cmp seen n
  lease-get n = sym (entries-lookup (lease_at slots) order.entries h.listed n)

  key_held : (n : ℕ) → IsSome (get nat_cmp order n) → IsSome (lease_at slots n)
  key_held n some = h.listed n ∙ some

  in_order : (P : ℕ → Type 0) → ((n : ℕ) → IsSome (get nat_cmp order n) → P n) → AllByRecursion P (keys order)
  in_order P f = All-from_IsIn P (keys order) (λ k i.
      let r = IsIn-map (λ (e : ℕ × ⊤). e.0) order.entries k i in
      subst P r.2 (f r.0.0 (ap is_some (entry_at order h.ordered r.0.0 r.0.1 r.1))))

  pub held-keys : AreHeld (lease_at slots) (keys order)
  held-keys = in_order (λ n. IsSome (lease_at slots n)) key_held

  pub seen-keys : keys seen ≡ keys order
  seen-keys = entries-keys (lease_at slots) order.entries held-keys

  pub seen-ordered : IsOrdered nat_cmp seen
  seen-ordered = subst (IsStrictlySortedBy nat_cmp) (sym seen-keys) h.ordered

  pub seen-len : btree_map_len order ≡ btree_map_len seen
  seen-len = sym (length-keys_of order.entries) ∙ sym (ap length seen-keys) ∙ length-keys_of seen.entries

  pub seen-values : filter_map (lease_at slots) (keys order) ≡ values seen
  seen-values = sym (entries-values (lease_at slots) order.entries)

  -- what stands in a slot is the lease with its number
  slot_entry : (slot : ℕ) (e : ℕ × L) → slab.get slots slot ≡ Some e → e.0 % MOST_SLOTS ≡ slot → get nat_cmp seen e.0 ≡ Some e.1
  slot_entry slot e is key = sym (lease-get e.0) ∙ ap (λ s. lease_of e.0 (slab.get slots s)) key ∙ ap (lease_of e.0) is ∙ own_lease e.0 e refl

  pub slot-entry : (slot : ℕ) (e : ℕ × L) → slab.get slots slot ≡ Some e → get nat_cmp seen e.0 ≡ Some e.1
  slot-entry slot e is = slot_entry slot e is (subst (λ (q : Option (ℕ × L)). IfSome q (λ x. x.0 % MOST_SLOTS ≡ slot)) is (h.named slot))

  pub slot-told : (slot : ℕ) (r : Option (Bor (ℕ × L))) → option_copied r ≡ slab.get slots slot → IfSome r (λ e. get nat_cmp seen e.now.0 ≡ Some e.now.1)
  slot-told slot None is = tt
  slot-told slot (Some e) is = slot-entry slot e.now (sym is)

  -- in the slot of a number that has a lease stands that
  pub slot-own : (slot n : ℕ) (l : L) (r : Option (Bor (ℕ × L))) → option_copied r ≡ slab.get slots slot → get nat_cmp seen n ≡ Some l → slot ≡ n % MOST_SLOTS → option_copied r ≡ Some (n, l)
  slot-own slot n l r is there here = is ∙ (ap (slab.get slots) here ∙ own_entry n l (slab.get slots (n % MOST_SLOTS)) (lease-get n ∙ there))

-- ---- a change
module _ {L : Type 0} (slots slots' : slab.Slab (ℕ × L)) (order order' : BTreeMap ℕ ⊤) (h : AreSlots slots order) where
  -- where each number keeps its lease
  module _ (same : (n : ℕ) → lease_at slots' n ≡ lease_at slots n) (entries : order'.entries ≡ order.entries) where
    pub same-slots : AreNamed slots' → AreSlots slots' order'
    same-slots named = record {
      ordered = subst (λ (es : List (ℕ × ⊤)). IsStrictlySortedBy nat_cmp (keys_of es)) (sym entries) h.ordered;
      listed = λ n. ap is_some (same n) ∙ h.listed n ∙ sym (ap (λ (es : List (ℕ × ⊤)). is_some (lookup (is_at (nat_cmp n)) es)) entries);
      named = named;
    }

    pub same-entries : (leases_of slots' order').entries ≡ (leases_of slots order).entries
    same-entries =
        ap (entries_of (lease_at slots')) entries
        ∙ entries-alike (lease_at slots) (lease_at slots') order.entries (in_order slots order h (λ n. lease_at slots' n ≡ lease_at slots n) (λ n _. same n))

  -- where one number is changed
  module _ (n : ℕ) (w : Option L) (u : Option ⊤) (changed : (m : ℕ) → lease_at slots' m ≡ cond (is_at (nat_cmp n) m) w (lease_at slots m)) where
    both_some : (b : Bool) (o : Option L) (q : Option ⊤) → is_some w ≡ is_some u → is_some o ≡ is_some q → is_some (cond b w o) ≡ is_some (cond b u q)
    both_some true o q x y = x
    both_some false o q x y = y

    pub changed-slots : AreNamed slots' → is_some w ≡ is_some u → IsOrdered nat_cmp order' → ((m : ℕ) → get nat_cmp order' m ≡ cond (is_at (nat_cmp n) m) u (get nat_cmp order m)) → AreSlots slots' order'
    changed-slots named same ordered updates = record {
      ordered = ordered;
      listed = λ m. ap is_some (changed m) ∙ both_some (is_at (nat_cmp n) m) (lease_at slots m) (get nat_cmp order m) same (h.listed m) ∙ sym (ap is_some (updates m));
      named = named;
    }

    seen_changed : AreSlots slots' order' → (m : ℕ) → get nat_cmp (leases_of slots' order') m ≡ cond (is_at (nat_cmp n) m) w (get nat_cmp (leases_of slots order) m)
    seen_changed new m = sym (lease-get slots' order' new m) ∙ changed m ∙ ap (λ o. cond (is_at (nat_cmp n) m) w o) (lease-get slots order h m)

    apart_by : get nat_cmp order n ≡ None → AllByRecursion (λ m. is_at (nat_cmp n) m ≡ false) (keys order)
    apart_by free = in_order slots order h (λ m. is_at (nat_cmp n) m ≡ false) (λ m some. number_other n m (λ same.
        let no : true ≡ false = sym some ∙ ap (λ (z : ℕ). is_some (get nat_cmp order z)) (sym same) ∙ ap is_some free in cc))

    pub seen-inserts : (l : L) → w ≡ Some l → AreSlots slots' order' → get nat_cmp order n ≡ None → order'.entries ≡ insert_entry nat_cmp order.entries n tt →
        Inserts nat_cmp (leases_of slots order) (leases_of slots' order') n l
    seen-inserts l is new free entries = record {
      entries = ap (entries_of (lease_at slots')) entries
          ∙ entries-inserted (lease_at slots) (lease_at slots') n w changed l is order.entries (held-keys slots order h) (apart_by free);
      changed = λ m. seen_changed new m ∙ ap (λ o. cond (is_at (nat_cmp n) m) o (get nat_cmp (leases_of slots order) m)) is;
      ordered = seen-ordered slots' order' new;
    }

    pub seen-overwrites : (l : L) → w ≡ Some l → AreSlots slots' order' → order'.entries ≡ order.entries →
        Overwrites nat_cmp (leases_of slots order) (leases_of slots' order') n l
    seen-overwrites l is new entries = record {
      entries = ap (entries_of (lease_at slots')) entries
          ∙ entries-set (lease_at slots) (lease_at slots') n w changed l is order.entries (held-keys slots order h) h.ordered;
      changed = λ m. seen_changed new m ∙ ap (λ o. cond (is_at (nat_cmp n) m) o (get nat_cmp (leases_of slots order) m)) is;
      ordered = seen-ordered slots' order' new;
    }

    pub seen-removes : w ≡ None → AreSlots slots' order' → order'.entries ≡ remove_entry (is_at (nat_cmp n)) order.entries →
        Removes nat_cmp (leases_of slots order) (leases_of slots' order') n
    seen-removes is new entries = record {
      entries = ap (entries_of (lease_at slots')) entries
          ∙ entries-removed (lease_at slots) (lease_at slots') n w changed is order.entries (held-keys slots order h) h.ordered;
      changed = λ m. seen_changed new m ∙ ap (λ o. cond (is_at (nat_cmp n) m) o (get nat_cmp (leases_of slots order) m)) is;
      ordered = seen-ordered slots' order' new;
    }
