-- The flags of words, and what of them is changed by a change of a word.
use Rattle.std.proofs.Common.{◌≡◌, ◌≢◌, ℕ, ◌+◌, ◌-◌, ◌*◌, ◌/◌, ◌%◌, ◌<◌, ◌≤◌, Bool, true, false, cond, List, length, slice_index_or, slice_set, eqb, refl, sym, ◌∙◌, ap, subst, arith, inl, inr, get_or-set_other, get_or-set_same, min}
use Rattle.std.proofs.lemmas.Bool.{cases_lt, cases_eq}
use Rattle.std.proofs.lemmas.List.{get_or_past, length-set}
use Rattle.std.proofs.lemmas.List.FromFn.{length-map-range_with_len, get_or-map-range_with_len}
use Rattle.std.proofs.lemmas.Nat.Bits.{bit_at-zero}
use Rattle.std.specs.Prelude.{Vec}
use Rattle.std.specs.Vec.{with_items}
use Rattle.std.proofs.lemmas.List.{with_items_is}
use Rattle.std.specs.Int.{bit_at}
use Rattle.port_runs.specs.Flags.{flags_of, IsMarked, IsSetBetween, IsSetCountAt}
use Rattle.port_runs.specs.Bits.{IsBitRun, IsWordMarked}

pub length-flags_of : (words : List ℕ) → length (flags_of words) ≡ 64 * length words
unfolding flags_of
length-flags_of words = length-map-range_with_len _ 0 (64 * length words)

flag_at : (words : List ℕ) (place : ℕ) → place < 64 * length words → slice_index_or (flags_of words) place false ≡ eqb (bit_at (slice_index_or words (place / 64) 0) (place % 64)) 1
unfolding flags_of
flag_at words place within = get_or-map-range_with_len _ 0 (64 * length words) place place false within (omega arith)

-- a flag is set where its bit is 1
module _ (words : List ℕ) (index bit : ℕ) (within : index < length words) (small : bit < 64) where
  pub flag_is : slice_index_or (flags_of words) (64 * index + bit) false ≡ eqb (bit_at (slice_index_or words index 0) bit) 1
  flag_is =
      let word : (64 * index + bit) / 64 ≡ index = omega arith in
      let place : (64 * index + bit) % 64 ≡ bit = omega arith in
      flag_at words (64 * index + bit) (omega arith) ∙ rw (word, place) refl

  pub flag_set : bit_at (slice_index_or words index 0) bit ≡ 1 → slice_index_or (flags_of words) (64 * index + bit) false ≡ true
  flag_set is = flag_is ∙ rw is refl

  pub flag_clear : bit_at (slice_index_or words index 0) bit ≡ 0 → slice_index_or (flags_of words) (64 * index + bit) false ≡ false
  flag_clear is = flag_is ∙ rw is refl

pub clear_words : (words : List ℕ) → ((i : ℕ) → slice_index_or words i 0 ≡ 0) → (i : ℕ) → slice_index_or (flags_of words) i false ≡ false
clear_words words none i = elim (cases_lt i (64 * length words)) [
  | inl within ↦ flag_at words i within ∙ rw (none (i / 64), bit_at-zero (i % 64)) refl
  | inr past ↦ get_or_past (flags_of words) i false (omega (arith, length-flags_of words))
]

-- flags of one word that were set or cleared
module _ (words : List ℕ) (from to new : ℕ) (value : Bool) (within : from / 64 < length words) (one : to ≤ 64 * (from / 64) + 64) (m : IsWordMarked (from - 64 * (from / 64)) (to - 64 * (from / 64)) value (slice_index_or words (from / 64) 0) new) where
  other_word : (i : ℕ) → i / 64 ≢ from / 64 → slice_index_or (flags_of (slice_set words (from / 64) new)) i false ≡ slice_index_or (flags_of words) i false
  other_word i apart = elim (cases_lt i (64 * length words)) [
    | inl inside ↦
        flag_at (slice_set words (from / 64) new) i (omega (arith, length-set words (from / 64) new))
        ∙ (ap (λ (w : ℕ). eqb (bit_at w (i % 64)) 1) (get_or-set_other words (from / 64) (i / 64) new 0 apart)
        ∙ sym (flag_at words i inside))
    | inr past ↦
        get_or_past (flags_of (slice_set words (from / 64) new)) i false (omega (arith, length-flags_of (slice_set words (from / 64) new), length-set words (from / 64) new))
        ∙ sym (get_or_past (flags_of words) i false (omega (arith, length-flags_of words)))
  ]

  this_word : (i : ℕ) → i / 64 ≡ from / 64 → slice_index_or (flags_of (slice_set words (from / 64) new)) i false ≡ eqb (bit_at new (i % 64)) 1
  this_word i same =
      flag_at (slice_set words (from / 64) new) i (omega (arith, length-set words (from / 64) new))
      ∙ (ap (λ (j : ℕ). eqb (bit_at (slice_index_or (slice_set words (from / 64) new) j 0) (i % 64)) 1) same
      ∙ ap (λ (w : ℕ). eqb (bit_at w (i % 64)) 1) (get_or-set_same words (from / 64) new 0 within))

  was_word : (i : ℕ) → i / 64 ≡ from / 64 → slice_index_or (flags_of words) i false ≡ eqb (bit_at (slice_index_or words (from / 64) 0) (i % 64)) 1
  was_word i same =
      flag_at words i (omega arith)
      ∙ ap (λ (j : ℕ). eqb (bit_at (slice_index_or words j 0) (i % 64)) 1) same

  kept_in_word : (i : ℕ) → i / 64 ≡ from / 64 → bit_at new (i % 64) ≡ bit_at (slice_index_or words (from / 64) 0) (i % 64) → slice_index_or (flags_of (slice_set words (from / 64) new)) i false ≡ slice_index_or (flags_of words) i false
  kept_in_word i same bit = this_word i same ∙ (ap (λ (b : ℕ). eqb b 1) bit ∙ sym (was_word i same))

  value_is : (v : Bool) → eqb (cond {A = ℕ} v 1 0) 1 ≡ v
  value_is true = refl
  value_is false = refl

  pub word_marked : IsMarked from to value (flags_of words) (flags_of (slice_set words (from / 64) new))
  word_marked = record {
    same_length = length-flags_of (slice_set words (from / 64) new) ∙ (ap (λ (n : ℕ). 64 * n) (length-set words (from / 64) new) ∙ sym (length-flags_of words));
    marked = λ i low high. this_word i (omega arith) ∙ (ap (λ (b : ℕ). eqb b 1) (m.inside (i % 64) (omega arith) (omega arith)) ∙ value_is value);
    below = λ i less. elim (cases_eq (i / 64) (from / 64)) [
      | inl same ↦ kept_in_word i same (m.below (i % 64) (omega arith) (omega arith))
      | inr apart ↦ other_word i apart
    ];
    above = λ i past. elim (cases_eq (i / 64) (from / 64)) [
      | inl same ↦ kept_in_word i same (m.above (i % 64) (omega arith) (omega arith))
      | inr apart ↦ other_word i apart
    ];
  }

-- marks one behind the other
pub marked_none : (from : ℕ) (value : Bool) (flags : List Bool) → IsMarked from from value flags flags
marked_none from value flags = record { same_length = refl; marked = λ i low high. absurd (omega arith); below = λ i less. refl; above = λ i past. refl }

pub marked_on : (from place to : ℕ) (value : Bool) (old mid new : List Bool) → from ≤ place → place ≤ to → IsMarked from place value old mid → IsMarked place to value mid new → IsMarked from to value old new
marked_on from place to value old mid new first second l r = record {
  same_length = r.same_length ∙ l.same_length;
  marked = λ i low high. elim (cases_lt i place) [
    | inl before ↦ r.below i before ∙ l.marked i low before
    | inr past ↦ r.marked i past high
  ];
  below = λ i less. r.below i (omega arith) ∙ l.below i less;
  above = λ i past. r.above i past ∙ l.above i (omega arith);
}

pub same_words : (old new : List ℕ) → length (flags_of new) ≡ length (flags_of old) → length new ≡ length old
same_words old new same = omega (arith, same, length-flags_of old, length-flags_of new)

pub words_of_flags : (words : List ℕ) → length (flags_of words) ≡ 65536 → length words ≡ 1024
words_of_flags words all = omega (arith, all, length-flags_of words)

pub flags_whole : (words : List ℕ) → length words ≡ 1024 → length (flags_of words) ≡ 65536
flags_whole words all = omega (arith, all, length-flags_of words)

-- the flags of a vector of words after its slice was marked
pub marked_words : {Z : Type 0} (v : Vec ℕ Z) (old new : List ℕ) (from to : ℕ) (value : Bool) → old ≡ v.items → IsMarked from to value (flags_of old) (flags_of new) → IsMarked from to value (flags_of v.items) (flags_of (with_items v new).items)
marked_words v old new from to value same m =
    let long : length new ≡ v.len = same_words old new m.same_length ∙ (ap length same ∙ sym v.ok.0) in
    subst (λ (xs : List ℕ). IsMarked from to value (flags_of xs) (flags_of (with_items v new).items)) same
    (subst (λ (xs : List ℕ). IsMarked from to value (flags_of old) (flags_of xs)) (sym (with_items_is v new long)) m)

-- flags that are counted word by word
module _ (words : List ℕ) (start most count : ℕ) (all : length words ≡ 1024) (set : IsSetBetween (flags_of words) start (start + count)) where
  pub count_at_end : count < most → 65536 ≤ start + count → IsSetCountAt (flags_of words) start most count
  count_at_end more past = record {
    most = omega arith;
    free = set;
    stops = λ few. get_or_past (flags_of words) (start + count) false (omega (arith, all, length-flags_of words));
  }

  module _ (run : ℕ) (below : start + count < 65536) (r : IsBitRun (slice_index_or words ((start + count) / 64) 0) ((start + count) % 64) run) where
    run_set : (i : ℕ) → start + count ≤ i → i < start + count + run → slice_index_or (flags_of words) i false ≡ true
    run_set i low high =
        let within = r.within in
        let word : ℕ = (start + count) / 64 in
        let bit : ℕ = i - 64 * word in
        let place : i ≡ 64 * word + bit = omega arith in
        ap (λ (k : ℕ). slice_index_or (flags_of words) k false) place ∙ flag_set words word bit (omega arith) (omega arith) (r.set bit (omega arith) (omega arith))

    pub count_on : IsSetBetween (flags_of words) start (start + (count + run))
    count_on i low high = elim (cases_lt i (start + count)) [
      | inl before ↦ set i low before
      | inr past ↦ run_set i past (omega arith)
    ]

    pub count_stops : (start + count) % 64 + run < 64 → IsSetCountAt (flags_of words) start most (min most (count + run))
    count_stops less = record {
      most = omega arith;
      free = λ i low high. count_on i low (omega arith);
      stops = λ few.
          let word : ℕ = (start + count) / 64 in
          let place : start + min most (count + run) ≡ 64 * word + ((start + count) % 64 + run) = omega arith in
          ap (λ (k : ℕ). slice_index_or (flags_of words) k false) place ∙ flag_clear words word ((start + count) % 64 + run) (omega arith) less (r.ends less);
    }
