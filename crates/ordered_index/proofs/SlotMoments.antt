-- Leases in slots with the least expiries of their blocks, after a call.
use Rattle.std.specs.Prelude.{⊤}
use Rattle.std.proofs.Common.{◌≡◌, ◌≢◌, ℕ, zero, suc, ◌+◌, ◌%◌, ◌≤◌, ◌<◌, Bool, true, false, cond, List, [], ◌∷◌, count_by, length, replicate, Option, Some, None, IsSome, IfSome, IfNone, slice_index_or, refl, sym, ap, ◌∙◌, subst, arith}
use Rattle.std.specs.Map.{remove_entry, values_of}
use Rattle.std.specs.Ordering.{nat_cmp}
use Rattle.std.specs.BTreeMap.{BTreeMap, IsOrdered, btree_map_len, get, is_at, insert_entry}
use Rattle.slab.specs.Slab as slab
use Rattle.expiry_wheel.specs.declared.TheConstants.{NEVER}
use Rattle.expiry_wheel.specs.Blocks.{AreLeasts}
use Rattle.expiry_wheel.proofs.BlockMoments.{leasts_never}
use Rattle.ordered_index.specs.declared.slots.TheConstants.{MOST_SLOTS, BLOCKS}
use Rattle.ordered_index.specs.Ended.{has_ended}
use Rattle.ordered_index.specs.Slots.{AreDueSlots, entries_of, held_below, holds, lease_at, lease_of, leases_of, moment_at, moment_of}
use Rattle.ordered_index.proofs.Entries.{some_of}
use Rattle.ordered_index.proofs.EntryLaws.{count-cons, tally}
use Rattle.ordered_index.proofs.SlotLaws.{lease-get, own, own_lease, seen-len, slot-entry}
use Rattle.ordered_index.proofs.SlotCounts.{held-few, held-none, held-more, held-same, held-updated, count-come, count-changed, count-gone}
use Rattle.ordered_index.proofs.SlotCalls.{appended-free, appended-inserts, appended-slots, blank-slots, overwritten, overwritten-slots, roomy-slots, taken, taken-slots}

named_low : (n : ℕ) → n % 32768 < 32768
named_low n = omega arith

pub slot-low : (n : ℕ) → n % MOST_SLOTS < MOST_SLOTS
slot-low = named_low

count-all : {L : Type 0} (es : List (ℕ × L)) → count_by (λ (_ : L). true) (values_of es) ≡ length es
count-all [] = refl
count-all {L} (e ∷ es) = let more = count-cons (λ (_ : L). true) e.1 (values_of es) in let rest = count-all es in omega (arith, more, rest)

module _ {L : Type 0} (expiry : L → ℕ) where
  -- what is told of a slot's block, where what stood there had this moment
  abbrev pub IsTold : (new : slab.Slab (ℕ × L)) (slot was : ℕ) (leasts leasts' : List ℕ) → Type 0
  IsTold new slot was leasts leasts' = (before : ℕ → ℕ) → AreLeasts BLOCKS before leasts → before slot ≡ was → ((i : ℕ) → i ≢ slot → moment_at expiry new i ≡ before i) → AreLeasts BLOCKS (moment_at expiry new) leasts'

  due_told : (old new : slab.Slab (ℕ × L)) (slot : ℕ) (o : Option (ℕ × L)) → slab.Updates old new slot o → (was : ℕ) → was ≡ moment_at expiry old slot → (leasts leasts' : List ℕ) → IsTold new slot was leasts leasts' →
      AreLeasts BLOCKS (moment_at expiry old) leasts → AreLeasts BLOCKS (moment_at expiry new) leasts'
  due_told old new slot o updates was was_is leasts leasts' told due =
      told (moment_at expiry old) due (sym was_is) (λ i other. ap (moment_of expiry) (updates.others i other))

  module _ (slots : slab.Slab (ℕ × L)) (order : BTreeMap ℕ ⊤) (leasts : List ℕ) where
    -- no lease
    module _ (blank : slots.slots ≡ []) (none : order.entries ≡ []) (ordered : IsOrdered nat_cmp order) where
      nothing : (k : ℕ) → slab.get slots k ≡ None
      nothing k = ap (λ (s : List (Option (ℕ × L))). slice_index_or s k None) blank

      none_held : (test : L → Bool) (n : ℕ) → held_below test slots n ≡ 0
      none_held test zero = held-none test slots
      none_held test (suc n) =
          let more = held-more test slots n in let rest = none_held test n in
          let here : tally (holds test (slab.get slots n)) ≡ 0 = ap (λ o. tally (holds test o)) (nothing n) in
          omega (arith, more, rest, here)

      pub blank-due : (n : ℕ) → n ≡ BLOCKS → leasts ≡ replicate n NEVER → AreDueSlots expiry slots order leasts
      blank-due n n_is leasts_is = record {
        are = blank-slots slots order blank none ordered;
        counted = λ test. none_held test MOST_SLOTS ∙ sym (ap (λ (es : List (ℕ × ⊤)). count_by test (values_of (entries_of (lease_at slots) es))) none);
        due = subst (AreLeasts BLOCKS (moment_at expiry slots)) (sym leasts_is) (leasts_never BLOCKS n (moment_at expiry slots) n_is (λ i. ap (moment_of expiry) (nothing i)));
      }

    module _ (h : AreDueSlots expiry slots order leasts) where
      -- room was made for one more
      module _ (mid : slab.Slab (ℕ × L)) (kept : mid ≡ record slots { capacity = mid.capacity }) where
        mid_get : (k : ℕ) → slab.get mid k ≡ slab.get slots k
        mid_get k = ap (λ (s : slab.Slab (ℕ × L)). slab.get s k) kept

        mid_due : AreLeasts BLOCKS (moment_at expiry mid) leasts
        mid_due = subst (λ (s : slab.Slab (ℕ × L)). AreLeasts BLOCKS (moment_at expiry s) leasts) (sym kept) h.due

        pub roomy-due : (order' : BTreeMap ℕ ⊤) → order'.entries ≡ order.entries → AreDueSlots expiry mid order' leasts
        roomy-due order' entries = record {
          are = roomy-slots slots order h.are mid kept order' entries;
          counted = λ test. held-same test slots mid mid_get MOST_SLOTS ∙ h.counted test
              ∙ sym (ap (λ (es : List (ℕ × ⊤)). count_by test (values_of (entries_of (lease_at mid) es))) entries
              ∙ ap (λ (s : slab.Slab (ℕ × L)). count_by test (values_of (entries_of (lease_at s) order.entries))) kept);
          due = mid_due;
        }

        -- and then it came
        module _ (new : slab.Slab (ℕ × L)) (order' : BTreeMap ℕ ⊤) (n : ℕ) (l : L) (key : ℕ) (key_is : key ≡ n % MOST_SLOTS)
            (updates : slab.Updates mid new key (Some (n, l))) (vacant : slab.get mid key ≡ None)
            (ordered : IsOrdered nat_cmp order') (entries : order'.entries ≡ insert_entry nat_cmp order.entries n tt)
            (gets : (m : ℕ) → get nat_cmp order' m ≡ cond (is_at (nat_cmp n) m) (Some tt) (get nat_cmp order m)) where
          low_key : key < MOST_SLOTS
          low_key = let low = slot-low n in omega (arith, low, key_is)

          pub appended-due : (leasts' : List ℕ) (slot : ℕ) → slot ≡ key → IsTold new slot NEVER leasts leasts' → AreDueSlots expiry new order' leasts'
          appended-due leasts' slot slot_is told = record {
            are = appended-slots slots order h.are mid kept new order' n l key key_is updates vacant ordered entries gets;
            counted = λ test.
                let past : held_below test new MOST_SLOTS + tally (holds test (slab.get mid key)) ≡ held_below test mid MOST_SLOTS + tally (test l) = held-updated test mid new key (Some (n, l)) updates MOST_SLOTS low_key in
                let free : tally (holds test (slab.get mid key)) ≡ 0 = ap (λ o. tally (holds test o)) vacant in
                let same = held-same test slots mid mid_get MOST_SLOTS in
                let before = h.counted test in
                let came = count-come test (leases_of slots order) (leases_of new order') n l
                (appended-free slots order h.are mid kept new order' n l key key_is updates vacant ordered entries gets)
                (appended-inserts slots order h.are mid kept new order' n l key key_is updates vacant ordered entries gets) in
                omega (arith, past, free, same, before, came);
            due = due_told mid new key (Some (n, l)) updates NEVER (sym (ap (moment_of expiry) vacant)) leasts leasts' (subst (λ s. IsTold new s NEVER leasts leasts') slot_is told) mid_due;
          }

      -- a number that has a lease
      module _ (n : ℕ) (there : IsSome (get nat_cmp (leases_of slots order) n)) where
        held : IsSome (lease_at slots n)
        held = subst IsSome (sym (lease-get slots order h.are n)) there

        at_slot : (e : ℕ × L) × (slab.get slots (n % MOST_SLOTS) ≡ Some e)
        at_slot = some_of (slab.get slots (n % MOST_SLOTS)) (own n (slab.get slots (n % MOST_SLOTS)) held).0

        same_lease : (e : ℕ × L) → slab.get slots (n % MOST_SLOTS) ≡ Some e → get nat_cmp (leases_of slots order) n ≡ Some e.1
        same_lease e is =
            sym (lease-get slots order h.are n) ∙ ap (lease_of n) is
            ∙ own_lease n e (subst (λ (q : Option (ℕ × L)). IfSome q (λ x. x.0 ≡ n)) is (own n (slab.get slots (n % MOST_SLOTS)) held).1)

        module _ (new : slab.Slab (ℕ × L)) (l : L) (updates : slab.Updates slots new (n % MOST_SLOTS) (Some (n, l))) where
          pub overwritten-due : (leasts' : List ℕ) (was : ℕ) → was ≡ moment_at expiry slots (n % MOST_SLOTS) → IsTold new (n % MOST_SLOTS) was leasts leasts' → AreDueSlots expiry new order leasts'
          overwritten-due leasts' was was_is told = record {
            are = overwritten-slots slots order h.are n there new l updates;
            counted = λ test.
                let past : held_below test new MOST_SLOTS + tally (holds test (slab.get slots (n % MOST_SLOTS))) ≡ held_below test slots MOST_SLOTS + tally (test l) = held-updated test slots new (n % MOST_SLOTS) (Some (n, l)) updates MOST_SLOTS (slot-low n) in
                let was : tally (holds test (slab.get slots (n % MOST_SLOTS))) ≡ tally (test at_slot.0.1) = ap (λ o. tally (holds test o)) at_slot.1 in
                let before = h.counted test in
                let changed = count-changed test (leases_of slots order) (leases_of new order) n at_slot.0.1 l (same_lease at_slot.0 at_slot.1) (overwritten slots order h.are n there new l updates) in
                omega (arith, past, was, before, changed);
            due = due_told slots new (n % MOST_SLOTS) (Some (n, l)) updates was was_is leasts leasts' told h.due;
          }

        module _ (new : slab.Slab (ℕ × L)) (order' : BTreeMap ℕ ⊤) (updates : slab.Updates slots new (n % MOST_SLOTS) None)
            (ordered : IsOrdered nat_cmp order') (entries : order'.entries ≡ remove_entry (is_at (nat_cmp n)) order.entries)
            (gets : (m : ℕ) → get nat_cmp order' m ≡ cond (is_at (nat_cmp n) m) None (get nat_cmp order m)) where
          pub taken-due : (leasts' : List ℕ) (was : ℕ) → was ≡ moment_at expiry slots (n % MOST_SLOTS) → IsTold new (n % MOST_SLOTS) was leasts leasts' → AreDueSlots expiry new order' leasts'
          taken-due leasts' was was_is told = record {
            are = taken-slots slots order h.are n there new order' updates ordered entries gets;
            counted = λ test.
                let past : held_below test new MOST_SLOTS + tally (holds test (slab.get slots (n % MOST_SLOTS))) ≡ held_below test slots MOST_SLOTS + 0 = held-updated test slots new (n % MOST_SLOTS) None updates MOST_SLOTS (slot-low n) in
                let was : tally (holds test (slab.get slots (n % MOST_SLOTS))) ≡ tally (test at_slot.0.1) = ap (λ o. tally (holds test o)) at_slot.1 in
                let before = h.counted test in
                let gone = count-gone test (leases_of slots order) (leases_of new order') n at_slot.0.1 (same_lease at_slot.0 at_slot.1)
                (taken slots order h.are n there new order' updates ordered entries gets) in
                omega (arith, past, was, before, gone);
            due = due_told slots new (n % MOST_SLOTS) None updates was was_is leasts leasts' told h.due;
          }

      -- no more leases than slots
      pub few-leases : btree_map_len order ≤ MOST_SLOTS
      few-leases =
          let all = h.counted (λ _. true) in
          let few = held-few (λ _. true) slots MOST_SLOTS in
          let each = count-all (leases_of slots order).entries in
          let same = seen-len slots order h.are in
          omega (arith, all, few, each, same)

      -- what some slots tell of leases that have ended
      module _ (m : ℕ) where
        pub ended-number : (r : Option ℕ) → IfSome r (λ n. (slot : ℕ) × (l : L) × (slab.get slots slot ≡ Some (n, l)) × (has_ended expiry m l ≡ true)) →
            IfSome r (λ n. (l : L) × (get nat_cmp (leases_of slots order) n ≡ Some l) × (has_ended expiry m l ≡ true))
        ended-number None found = tt
        ended-number (Some n) found = (found.1, slot-entry slots order h.are found.0 (n, found.1) found.2, found.3)

        none_at : (n : ℕ) (l : L) → get nat_cmp (leases_of slots order) n ≡ Some l → holds (has_ended expiry m) (slab.get slots (n % MOST_SLOTS)) ≡ false → has_ended expiry m l ≡ false
        none_at n l at_n none =
            let there : IsSome (get nat_cmp (leases_of slots order) n) = subst IsSome (sym at_n) refl in
            let e = at_slot n there in
            let is : e.0.1 ≡ l = (let both : Some e.0.1 ≡ Some l = sym (same_lease n there e.0 e.1) ∙ at_n in cc) in
            ap (has_ended expiry m) (sym is) ∙ sym (ap (holds (has_ended expiry m)) e.1) ∙ none

        pub none-ended : (r : Option ℕ) → IfNone r ((slot : ℕ) → slot < MOST_SLOTS → holds (has_ended expiry m) (slab.get slots slot) ≡ false) →
            IfNone r ((n : ℕ) (l : L) → get nat_cmp (leases_of slots order) n ≡ Some l → has_ended expiry m l ≡ false)
        none-ended None none = λ n l at_n. none_at n l at_n (none (n % MOST_SLOTS) (slot-low n))
        none-ended (Some n) none = tt
