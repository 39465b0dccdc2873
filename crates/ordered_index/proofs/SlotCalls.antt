-- What the calls of leases in slots do, by what they call.
use Rattle.std.specs.Prelude.{⊤, is_some}
use Rattle.std.proofs.Common.{◌≡◌, ℕ, ◌+◌, ◌%◌, ◌<◌, Bool, true, false, not, cond, List, [], Option, Some, None, IsSome, IfSome, Result, Ok, Err, OnErr, slice_index_or, refl, sym, ap, ◌∙◌, subst, arith}
use Rattle.std.specs.Borrow.{Bor}
use Rattle.std.specs.Option.{option_copied}
use Rattle.std.specs.Map.{lookup, remove_entry}
use Rattle.std.specs.Ordering.{nat_cmp}
use Rattle.std.specs.BTreeMap.{BTreeMap, IsOrdered, get, is_at, insert_entry}
use Rattle.slab.specs.Slab as slab
use Rattle.ordered_index.specs.declared.slots.TheConstants.{MOST_SLOTS}
use Rattle.ordered_index.specs.MapSteps.{IsBlankMap, Inserts, Overwrites, Removes}
use Rattle.ordered_index.specs.Slots.{AreSlots, entries_of, lease_at, lease_of, leases_of}
use Rattle.ordered_index.proofs.Entries.{number_same}
use Rattle.ordered_index.proofs.SlotCounts.{none-removed}
use Rattle.ordered_index.proofs.SlotLaws.{AreNamed, changed-slots, lease-get, named-updated, none_is, own, own_lease, same-entries, same-slots, seen-inserts, seen-ordered, seen-overwrites, seen-removes, slot-changed}

slot_named : (next slot n : ℕ) → next % 32768 ≡ 0 → slot < 32768 → n ≡ next + slot → n % 32768 ≡ slot
slot_named next slot n step below is = omega (arith, step, below, is)

-- the slot that a number names
pub slot-named : (next slot n : ℕ) → next % MOST_SLOTS ≡ 0 → slot < MOST_SLOTS → n ≡ next + slot → n % MOST_SLOTS ≡ slot
slot-named = slot_named

pub on-err : {A B X : Type 0} (r : Result A B) → X → OnErr r X
on-err (Ok a) x = tt
on-err (Err b) x = x

-- the key of what came is the slot that its number names
pub key-named : {L : Type 0} (slots mid : slab.Slab (ℕ × L)) (next slot key : ℕ) → next % MOST_SLOTS ≡ 0 → slot < MOST_SLOTS → slot ≡ slots.vacant_key → mid ≡ record slots { capacity = mid.capacity } →
    key ≡ mid.vacant_key → key ≡ (next + slot) % MOST_SLOTS
key-named {L} slots mid next slot key step below first kept is =
    is ∙ ap (λ (s : slab.Slab (ℕ × L)). s.vacant_key) kept ∙ sym first ∙ sym (slot-named next slot (next + slot) step below refl)

-- what is written where it stands
same_put : {X : Type 0} (f : ℕ → Option X) (n m : ℕ) (u : Option X) → f n ≡ u → f m ≡ cond (is_at (nat_cmp n) m) u (f m)
same_put f n m u h = step (is_at (nat_cmp n) m) refl
  where
    step : (b : Bool) → is_at (nat_cmp n) m ≡ b → f m ≡ cond b u (f m)
    step true e = ap f (sym (number_same n m e)) ∙ h
    step false e = refl

module _ {L : Type 0} where
  copied_some : (r : Option (Bor L)) → is_some (option_copied r) ≡ is_some r
  copied_some None = refl
  copied_some (Some x) = refl

  -- whether a look-up told something
  pub looked-up : (r : Option (Bor L)) (o : Option L) (is_none : Bool) (b : Bool) → option_copied r ≡ o → is_some r ≡ not is_none → is_none ≡ b → is_some o ≡ not b
  looked-up r o is_none b is tells at = ap is_some (sym is) ∙ copied_some r ∙ tells ∙ ap not at

  module _ (slots : slab.Slab (ℕ × L)) (order : BTreeMap ℕ ⊤) (blank : slots.slots ≡ []) (none : order.entries ≡ []) (ordered : IsOrdered nat_cmp order) where
    pub blank-slots : AreSlots slots order
    blank-slots = record {
      ordered = ordered;
      listed = λ n.
          ap (λ (s : List (Option (ℕ × L))). is_some (lease_of n (slice_index_or s (n % MOST_SLOTS) None))) blank
          ∙ sym (ap (λ (es : List (ℕ × ⊤)). is_some (lookup (is_at (nat_cmp n)) es)) none);
      named = λ slot. subst (λ (s : List (Option (ℕ × L))). IfSome (slice_index_or s slot None) (λ e. e.0 % MOST_SLOTS ≡ slot)) (sym blank) tt;
    }

    pub blank-seen : IsBlankMap nat_cmp (leases_of slots order)
    blank-seen = record { entries = ap (entries_of (lease_at slots)) none; ordered = seen-ordered slots order blank-slots }

  module _ (slots : slab.Slab (ℕ × L)) (order : BTreeMap ℕ ⊤) (h : AreSlots slots order) where
    -- room was made for one more
    module _ (mid : slab.Slab (ℕ × L)) (kept : mid ≡ record slots { capacity = mid.capacity }) where
      mid_same : (n : ℕ) → lease_at mid n ≡ lease_at slots n
      mid_same n = ap (λ (s : slab.Slab (ℕ × L)). lease_at s n) kept

      mid_named : AreNamed mid
      mid_named slot = subst (λ (s : slab.Slab (ℕ × L)). IfSome (slab.get s slot) (λ e. e.0 % MOST_SLOTS ≡ slot)) (sym kept) (h.named slot)

      module _ (order' : BTreeMap ℕ ⊤) (entries : order'.entries ≡ order.entries) where
        pub roomy-slots : AreSlots mid order'
        roomy-slots = same-slots slots mid order order' h mid_same entries mid_named

        pub roomy-entries : (leases_of mid order').entries ≡ (leases_of slots order).entries
        roomy-entries = same-entries slots mid order order' h mid_same entries

      -- and then it came
      module _ (new : slab.Slab (ℕ × L)) (order' : BTreeMap ℕ ⊤) (n : ℕ) (l : L) (key : ℕ) (key_is : key ≡ n % MOST_SLOTS)
          (updates : slab.Updates mid new key (Some (n, l))) (vacant : slab.get mid key ≡ None)
          (ordered : IsOrdered nat_cmp order') (entries : order'.entries ≡ insert_entry nat_cmp order.entries n tt)
          (gets : (m : ℕ) → get nat_cmp order' m ≡ cond (is_at (nat_cmp n) m) (Some tt) (get nat_cmp order m)) where
        roomy : AreSlots mid order
        roomy = roomy-slots order refl

        vacant_here : slab.get mid (n % MOST_SLOTS) ≡ None
        vacant_here = ap (slab.get mid) (sym key_is) ∙ vacant

        was : IfSome (slab.get mid (n % MOST_SLOTS)) (λ e. e.0 ≡ n)
        was = subst (λ (o : Option (ℕ × L)). IfSome o (λ e. e.0 ≡ n)) (sym vacant_here) tt

        updates_here : slab.Updates mid new (n % MOST_SLOTS) (Some (n, l))
        updates_here = subst (λ k. slab.Updates mid new k (Some (n, l))) key_is updates

        changed : (m : ℕ) → lease_at new m ≡ cond (is_at (nat_cmp n) m) (lease_of n (Some (n, l))) (lease_at mid m)
        changed = slot-changed mid new n (Some (n, l)) updates_here was refl

        free_number : get nat_cmp order n ≡ None
        free_number = none_is (get nat_cmp order n) (sym (roomy.listed n) ∙ ap (λ o. is_some (lease_of n o)) vacant_here)

        pub appended-free : get nat_cmp (leases_of slots order) n ≡ None
        appended-free = sym (lease-get slots order h n) ∙ none_is (lease_at slots n) (h.listed n ∙ ap is_some free_number)

        own_put : is_some (lease_of n (Some (n, l))) ≡ true
        own_put = ap is_some (own_lease n (n, l) refl)

        pub appended-slots : AreSlots new order'
        appended-slots = changed-slots mid new order order' roomy n (lease_of n (Some (n, l))) (Some tt) changed (named-updated mid new n (Some (n, l)) roomy.named updates_here refl) own_put ordered gets

        pub appended-inserts : Inserts nat_cmp (leases_of slots order) (leases_of new order') n l
        appended-inserts = subst (λ (m : BTreeMap ℕ L). Inserts nat_cmp m (leases_of new order') n l) (ap (λ (s : slab.Slab (ℕ × L)). leases_of s order) kept)
            (seen-inserts mid new order order' roomy n (lease_of n (Some (n, l))) (Some tt) changed l (own_lease n (n, l) refl) appended-slots free_number entries)

    -- a number that names a free slot
    pub vacant-free : (n slot : ℕ) → n % MOST_SLOTS ≡ slot → slab.get slots slot ≡ None → get nat_cmp order n ≡ None
    vacant-free n slot named vacant = none_is (get nat_cmp order n) (sym (h.listed n) ∙ ap (λ k. is_some (lease_of n (slab.get slots k))) named ∙ ap (λ o. is_some (lease_of n o)) vacant)

    -- what a look-up tells
    pub lease-there : (n : ℕ) → is_some (lease_at slots n) ≡ true → IsSome (get nat_cmp (leases_of slots order) n)
    lease-there n some = subst IsSome (lease-get slots order h n) some

    pub order-there : (n : ℕ) → is_some (lease_at slots n) ≡ true → IsSome (get nat_cmp order n)
    order-there n some = sym (h.listed n) ∙ some

    pub none-there : (n : ℕ) → is_some (lease_at slots n) ≡ false → is_some (get nat_cmp order n) ≡ false
    none-there n none = sym (h.listed n) ∙ none

    -- a number that has a lease
    module _ (n : ℕ) (there : IsSome (get nat_cmp (leases_of slots order) n)) where
      held : IsSome (lease_at slots n)
      held = subst IsSome (sym (lease-get slots order h n)) there

      its_own : IsSome (slab.get slots (n % MOST_SLOTS)) × IfSome (slab.get slots (n % MOST_SLOTS)) (λ e. e.0 ≡ n)
      its_own = own n (slab.get slots (n % MOST_SLOTS)) held

      pub slot-there : slab.ContainsKey slots (n % MOST_SLOTS)
      slot-there = its_own.0

      module _ (new : slab.Slab (ℕ × L)) (l : L) (updates : slab.Updates slots new (n % MOST_SLOTS) (Some (n, l))) where
        rewritten : (m : ℕ) → lease_at new m ≡ cond (is_at (nat_cmp n) m) (lease_of n (Some (n, l))) (lease_at slots m)
        rewritten = slot-changed slots new n (Some (n, l)) updates its_own.1 refl

        pub overwritten-slots : AreSlots new order
        overwritten-slots =
            changed-slots slots new order order h n (lease_of n (Some (n, l))) (get nat_cmp order n) rewritten
            (named-updated slots new n (Some (n, l)) h.named updates refl) (ap is_some (own_lease n (n, l) refl) ∙ sym held ∙ h.listed n) h.ordered (λ m. same_put (get nat_cmp order) n m (get nat_cmp order n) refl)

        pub overwritten : Overwrites nat_cmp (leases_of slots order) (leases_of new order) n l
        overwritten = seen-overwrites slots new order order h n (lease_of n (Some (n, l))) (get nat_cmp order n) rewritten l (own_lease n (n, l) refl) overwritten-slots refl

      own_value : (o : Option (ℕ × L)) (e : ℕ × L) → o ≡ Some e → IfSome o (λ x. x.0 ≡ n) → lease_of n o ≡ Some e.1
      own_value o e is own = ap (lease_of n) is ∙ own_lease n e (subst (λ (q : Option (ℕ × L)). IfSome q (λ x. x.0 ≡ n)) is own)

      pub taken-value : (e : ℕ × L) → slab.get slots (n % MOST_SLOTS) ≡ Some e → Some e.1 ≡ get nat_cmp (leases_of slots order) n
      taken-value e is = sym (own_value (slab.get slots (n % MOST_SLOTS)) e is its_own.1) ∙ lease-get slots order h n

      module _ (new : slab.Slab (ℕ × L)) (order' : BTreeMap ℕ ⊤) (updates : slab.Updates slots new (n % MOST_SLOTS) None)
          (ordered : IsOrdered nat_cmp order') (entries : order'.entries ≡ remove_entry (is_at (nat_cmp n)) order.entries)
          (gets : (m : ℕ) → get nat_cmp order' m ≡ cond (is_at (nat_cmp n) m) None (get nat_cmp order m)) where
        gone : (m : ℕ) → lease_at new m ≡ cond (is_at (nat_cmp n) m) None (lease_at slots m)
        gone = slot-changed slots new n None updates its_own.1 tt

        pub taken-slots : AreSlots new order'
        taken-slots = changed-slots slots new order order' h n None None gone (named-updated slots new n None h.named updates tt) refl ordered gets

        pub taken : Removes nat_cmp (leases_of slots order) (leases_of new order') n
        taken = seen-removes slots new order order' h n None None gone refl taken-slots entries

    -- a number that has none
    module _ (n : ℕ) (none : is_some (get nat_cmp order n) ≡ false) where
      none_held : lease_at slots n ≡ None
      none_held = none_is (lease_at slots n) (h.listed n ∙ none)

      pub none-value : None ≡ get nat_cmp (leases_of slots order) n
      none-value = sym none_held ∙ lease-get slots order h n

      pub none-taken : Removes nat_cmp (leases_of slots order) (leases_of slots order) n
      none-taken = seen-removes slots slots order order h n None None (λ m. same_put (lease_at slots) n m None none_held) refl h (sym (none-removed n order.entries (none_is (get nat_cmp order n) none)))
