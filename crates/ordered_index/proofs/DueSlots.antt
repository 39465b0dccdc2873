-- Which slots have leases that have ended, by the least expiries of their blocks.
use Rattle.std.specs.Prelude.{is_some, not}
use Rattle.std.proofs.Common.{◌≡◌, ◌≢◌, ℕ, zero, suc, ◌+◌, ◌*◌, ◌/◌, ◌≤◌, ◌<◌, ◌⊎◌, nat_lt, Bool, true, false, cond, List, length, slice_set, Option, Some, None, IfSome, IfNone, refl, sym, ap, ◌∙◌, subst, inl, inr, arith}
use Rattle.std.proofs.lemmas.Bool.{lt-ltb, le-ltb, ltb-true, ltb-false}
use Rattle.slab.specs.Slab as slab
use Rattle.expiry_wheel.specs.declared.TheConstants.{NEVER}
use Rattle.expiry_wheel.specs.Moments.{kept_at, IsFirstIn, IsNextIn}
use Rattle.expiry_wheel.specs.Blocks.{AreLeasts, least_at}
use Rattle.expiry_wheel.proofs.BlockMoments.{all_later, block_due, leasts_lower, leasts_stay, leasts_told, place_later}
use Rattle.ordered_index.specs.declared.slots.TheConstants.{MOST_SLOTS, BLOCKS}
use Rattle.ordered_index.specs.Ended.{has_ended}
use Rattle.ordered_index.specs.Slots.{held_below, holds, moment_at, moment_of}
use Rattle.ordered_index.proofs.EntryLaws.{tally}
use Rattle.ordered_index.proofs.SlotLaws.{same_or}
use Rattle.ordered_index.proofs.SlotCounts.{held-few, held-more, held-none, held-past}

pub one_more_none : (P : ℕ → Type 0) (from n : ℕ) → ((k : ℕ) → from ≤ k → k < n → P k) → P n → (k : ℕ) → from ≤ k → k < n + 1 → P k
one_more_none P from n before here k low high = elim (same_or k n) [
  | inl same ↦ subst P (sym same) here
  | inr other ↦ before k low (omega (arith, high, other))
]

pub some_not_none : (X : Type 0) {A : Type 0} (r : Option A) → is_some r ≡ true → IfNone r X
some_not_none X None some = absurd (let no : false ≡ true = some in cc)
some_not_none X (Some a) some = tt

not_true : (b : Bool) → not b ≡ true → b ≡ false
not_true true h = absurd (let no : false ≡ true = h in cc)
not_true false h = refl

not_false : (b : Bool) → not b ≡ false → b ≡ true
not_false true h = refl
not_false false h = absurd (let no : true ≡ false = h in cc)

one_few : (b : Bool) → tally b ≤ 1
one_few true = omega arith
one_few false = omega arith

module _ {L : Type 0} (expiry : L → ℕ) where
  -- by what the call told
  pub live_by : (m : ℕ) (l : L) (e : ℕ) → e ≡ expiry l → m < e → has_ended expiry m l ≡ false
  live_by m l e is less = ap not (lt-ltb m (expiry l) (omega (arith, is, less)))

  pub ended_by : (m : ℕ) (l : L) (e : ℕ) → e ≡ expiry l → e ≤ m → has_ended expiry m l ≡ true
  ended_by m l e is low = ap not (le-ltb m (expiry l) (omega (arith, is, low)))

  -- one that has ended has so later
  later_ended : (a b : ℕ) (l : L) → a ≤ b → has_ended expiry a l ≡ true → has_ended expiry b l ≡ true
  later_ended a b l up ended = let low = ltb-false a (expiry l) (not_true (nat_lt a (expiry l)) ended) in ap not (le-ltb b (expiry l) (omega (arith, low, up)))

  -- by the moment of a slot
  later_none : (m : ℕ) (o : Option (ℕ × L)) → m < moment_of expiry o → holds (has_ended expiry m) o ≡ false
  later_none m None later = refl
  later_none m (Some e) later = ap not (lt-ltb m (expiry e.1) later)

  none_later : (m : ℕ) (o : Option (ℕ × L)) → m < NEVER → holds (has_ended expiry m) o ≡ false → m < moment_of expiry o
  none_later m None some none = some
  none_later m (Some e) some none = ltb-true m (expiry e.1) (not_false (nat_lt m (expiry e.1)) none)

  module _ (slots : slab.Slab (ℕ × L)) where
    abbrev IsEnded : ℕ → ℕ → Type 0
    IsEnded m n = (slot : ℕ) × (l : L) × (slab.get slots slot ≡ Some (n, l)) × (has_ended expiry m l ≡ true)

    abbrev NoneEnded : ℕ → ℕ → ℕ → Type 0
    NoneEnded m from to = (slot : ℕ) → from ≤ slot → slot < to → holds (has_ended expiry m) (slab.get slots slot) ≡ false

    pub found_number : (m slot : ℕ) (r : Option ℕ) → is_some r ≡ holds (has_ended expiry m) (slab.get slots slot) → IfSome r (λ n. (l : L) × (slab.get slots slot ≡ Some (n, l))) → IfSome r (IsEnded m)
    found_number m slot None tells number = tt
    found_number m slot (Some n) tells number =
        (slot, number.0, number.1, sym (ap (holds (has_ended expiry m)) number.1) ∙ sym tells)

    pub all_none : (m : ℕ) (r : Option ℕ) → IfNone r (NoneEnded m 0 (8 * BLOCKS)) → IfNone r ((slot : ℕ) → slot < MOST_SLOTS → holds (has_ended expiry m) (slab.get slots slot) ≡ false)
    all_none m None none = λ slot low. none slot (omega arith) (omega (arith, low))
    all_none m (Some n) none = tt

    module _ (leasts : List ℕ) where
      least_up : (m block least : ℕ) → IsNextIn leasts m block → least ≡ kept_at leasts block → least ≤ m
      least_up m block least next is = let due = next.due in let here = next.first.due in omega (arith, due, here, is)

      pub sooner_number : (m block least : ℕ) → IsNextIn leasts m block → least ≡ kept_at leasts block → (r : Option ℕ) → IfSome r (IsEnded least) → IfSome r (IsEnded m)
      sooner_number m block least next is None number = tt
      sooner_number m block least next is (Some n) number =
          (number.0, number.1, number.2, later_ended least m number.1 (least_up m block least next is) number.3)

      module _ (are : AreLeasts BLOCKS (moment_at expiry slots) leasts) where
        pub none_due : (m : ℕ) → ((block : ℕ) → block < length leasts → m < kept_at leasts block) → (slot : ℕ) → slot < MOST_SLOTS → holds (has_ended expiry m) (slab.get slots slot) ≡ false
        none_due m none slot low = later_none m (slab.get slots slot) (all_later BLOCKS (moment_at expiry slots) leasts are m none slot (omega (arith, low)))

        pub sooner_none : (m : ℕ) → m < NEVER → (block least : ℕ) → block < length leasts → IsNextIn leasts m block → least ≡ kept_at leasts block → (r : Option ℕ) → IfNone r (NoneEnded least (8 * block) (8 * block + 8)) →
            IfNone r ((slot : ℕ) → slot < MOST_SLOTS → holds (has_ended expiry m) (slab.get slots slot) ≡ false)
        sooner_none m some block least within next is None none =
            let up = least_up m block least next is in
            let all = are.all in
            absurd (block_due BLOCKS (moment_at expiry slots) leasts are least block (omega (arith, up, some)) (omega (arith, within, all)) (omega (arith, is))
            (λ i from to. none_later least (slab.get slots i) (omega (arith, up, some)) (none i from to)))
        sooner_none m some block least within next is (Some n) none = tt

        -- the blocks that are passed over
        passed : (m from : ℕ) (j : ℕ) → ((b : ℕ) → from ≤ b → b < j → m < kept_at leasts b) → (slot : ℕ) → 8 * from ≤ slot → slot < 8 * j → slot < MOST_SLOTS → holds (has_ended expiry m) (slab.get slots slot) ≡ false
        passed m from j later slot low high most =
            later_none m (slab.get slots slot) (place_later BLOCKS (moment_at expiry slots) leasts are m slot (omega (arith, most)) (later (slot / 8) (omega (arith, low)) (omega (arith, high))))

        pub held-rest : (m from : ℕ) → from ≤ BLOCKS → ((block : ℕ) → from ≤ block → block < length leasts → m < kept_at leasts block) → held_below (has_ended expiry m) slots MOST_SLOTS ≡ held_below (has_ended expiry m) slots (8 * from)
        held-rest m from within none =
            let all = are.all in
            held-past (has_ended expiry m) slots (8 * from) MOST_SLOTS (omega (arith, within))
            (λ slot low high. passed m from BLOCKS (λ b up below. none b up (omega (arith, below, all))) slot low (omega (arith, high)) high)

        pub held-skipped : (m from block : ℕ) → block < length leasts → IsFirstIn leasts from m block → (count more : ℕ) → count ≡ held_below (has_ended expiry m) slots (8 * from) →
            held_below (has_ended expiry m) slots (8 * block) + more ≡ held_below (has_ended expiry m) slots (8 * block + 8) → count + more ≡ held_below (has_ended expiry m) slots (8 * (block + 1))
        held-skipped m from block within found count more is ended =
            let all = are.all in
            let up = found.from_on in
            let past = held-past (has_ended expiry m) slots (8 * from) (8 * block) (omega (arith, up))
            (λ slot low high. passed m from block found.first slot low high (omega (arith, high, within, all))) in
            let next : held_below (has_ended expiry m) slots (8 * (block + 1)) ≡ held_below (has_ended expiry m) slots (8 * block + 8) = ap (held_below (has_ended expiry m) slots) (let sum : 8 * (block + 1) ≡ 8 * block + 8 = omega arith in sum) in
            omega (arith, is, ended, past, next)

module _ {L : Type 0} (test : L → Bool) (slots : slab.Slab (ℕ × L)) where
  pub held-start : (at : ℕ) → held_below test slots at + 0 ≡ held_below test slots (at + 0)
  held-start at =
      let same : held_below test slots (at + 0) ≡ held_below test slots at = ap (held_below test slots) (let sum : at + 0 ≡ at = omega arith in sum) in
      omega (arith, same)

  pub held-turn : (at i count one : ℕ) → held_below test slots at + count ≡ held_below test slots (at + i) → one ≡ tally (holds test (slab.get slots (at + i))) → held_below test slots at + (count + one) ≡ held_below test slots (at + (i + 1))
  held-turn at i count one held one_is =
      let more = held-more test slots (at + i) in
      let next : held_below test slots (at + (i + 1)) ≡ held_below test slots (suc (at + i)) = ap (held_below test slots) (let sum : at + (i + 1) ≡ suc (at + i) = omega arith in sum) in
      omega (arith, held, one_is, more, next)

  pub one_at_most : (at one : ℕ) → one ≡ tally (holds test (slab.get slots at)) → one ≤ 1
  one_at_most at one is = let few = one_few (holds test (slab.get slots at)) in omega (arith, is, few)

  pub held-first : 0 ≡ held_below test slots (8 * 0)
  held-first = sym (ap (held_below test slots) (let sum : 8 * 0 ≡ 0 = omega arith in sum) ∙ held-none test slots)

  pub held-all : (from count : ℕ) → count ≡ held_below test slots (8 * from) → from ≡ BLOCKS → count ≡ held_below test slots MOST_SLOTS
  held-all from count is from_is = is ∙ ap (held_below test slots) (let all : 8 * from ≡ MOST_SLOTS = omega (arith, from_is) in all)

-- where another moment stands in a slot than was there
module _ (before : ℕ → ℕ) (leasts : List ℕ) (are : AreLeasts BLOCKS before leasts) (now : ℕ → ℕ) (slot : ℕ) (low : slot < MOST_SLOTS) (others : (i : ℕ) → i ≢ slot → now i ≡ before i) where
  low_slot : slot < 8 * BLOCKS
  low_slot = omega (arith, low)

  low_block : slot / 8 < BLOCKS
  low_block = omega (arith, low)

  pub told-lower : (moment : ℕ) → moment ≡ now slot → moment ≤ NEVER → (least : ℕ) → least ≡ kept_at leasts (slot / 8) → moment ≤ least → (after : List ℕ) → after ≡ slice_set leasts (slot / 8) moment → AreLeasts BLOCKS now after
  told-lower moment moment_is some least least_is under after after_is =
      subst (AreLeasts BLOCKS now) (sym (after_is ∙ ap (slice_set leasts (slot / 8)) moment_is))
      (leasts_lower BLOCKS before leasts are now slot low_slot (omega (arith, moment_is, some)) others (omega (arith, moment_is, least_is, under)))

  pub told-stays : (moment : ℕ) → moment ≡ now slot → moment ≤ NEVER → (least : ℕ) → least ≡ kept_at leasts (slot / 8) → least < moment → (was : ℕ) → before slot ≡ was → was ≢ least → AreLeasts BLOCKS now leasts
  told-stays moment moment_is some least least_is over was was_is other =
      leasts_stay BLOCKS before leasts are now slot low_slot (omega (arith, moment_is, some)) others (omega (arith, moment_is, least_is, over))
      (λ same. other (sym was_is ∙ same ∙ sym least_is))

  pub told-anew : (anew : ℕ) → anew ≡ least_at now (8 * (slot / 8)) 8 → (after : List ℕ) → after ≡ slice_set leasts (slot / 8) anew → AreLeasts BLOCKS now after
  told-anew anew anew_is after after_is =
      subst (AreLeasts BLOCKS now) (sym after_is)
      (leasts_told BLOCKS before leasts are now (slot / 8) anew low_block (λ i apart. others i (λ same. apart (ap (λ k. k / 8) same))) anew_is)
