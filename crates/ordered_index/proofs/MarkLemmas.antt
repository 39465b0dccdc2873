-- Marks in words, and the last of them up to a number.
use Rattle.std.proofs.Common.{◌≡◌, ◌≢◌, ℕ, suc, ◌+◌, ◌-◌, ◌*◌, ◌/◌, ◌%◌, ◌^◌, ◌<◌, ◌≤◌, ◌==◌, Bool, true, false, not, List, length, slice_set, replicate, Option, Some, None, refl, sym, ap, ◌∙◌, arith, inl, inr, get_or-set_other, get_or-set_same, w64, bit_and, bit_or, pow_pos, div-lt_iff_lt-mul, le-div_iff_mul-le}
use Rattle.std.specs.Prelude.{slice_index, is_some}
use Rattle.std.specs.Int.{bit_at, bit_not}
use Rattle.std.proofs.Math.Nat.{pow-suc}
use Rattle.std.proofs.lemmas.Bool.{cases_lt, cases_eq, eqb-true}
use Rattle.std.proofs.lemmas.List.{length-set, length-replicate, get_or_past, get_or-replicate}
use Rattle.std.proofs.lemmas.Nat.Bits.{bit_at-zero, bit_at-lt, bit_at_and, bit_at_above, bit_at_ones, bit_at_ones_above, bit_at_set_same, bit_at_set_other, bit_at_clear_same, bit_at_clear_other, ones_shr}
use Rattle.ordered_index.specs.Marks.{has_bit, is_marked, AreSummed, IsLastInWord, IsLastPass, IsLastUpTo, Marks}
use Rattle.ordered_index.specs.declared.marks.TheConstants.{HIGH_WORDS, LOW_WORDS, MOST_MARKS}

abbrev is_one : ℕ → Bool
is_one b = b == 1

-- ---- one word is written
module _ (words : List ℕ) (n word : ℕ) (value : Bool) (within : n < 64 * length words) (here : has_bit word (n % 64) ≡ value)
    (others : (i : ℕ) → i < 64 → i ≢ n % 64 → bit_at word i ≡ bit_at (slice_index words (n / 64)) i) where
  abbrev new : List ℕ
  new = slice_set words (n / 64) word

  this_word : slice_index new (n / 64) ≡ word
  this_word = get_or-set_same words (n / 64) word 0 (omega arith)

  other_mark : (m : ℕ) → m ≢ n → is_marked new m ≡ is_marked words m
  other_mark m apart = elim (cases_eq (m / 64) (n / 64)) [
    | inl same ↦
        ap (λ i. has_bit (slice_index new i) (m % 64)) same
        ∙ (ap (λ w. has_bit w (m % 64)) this_word
        ∙ (ap is_one (others (m % 64) (omega arith) (λ e. apart (omega arith)))
        ∙ sym (ap (λ i. has_bit (slice_index words i) (m % 64)) same)))
    | inr other ↦ ap (λ w. has_bit w (m % 64)) (get_or-set_other words (n / 64) (m / 64) word 0 other)
  ]

  pub marks : Marks words n value new
  marks = record {
    all = length-set words (n / 64) word;
    here = ap (λ w. has_bit w (n % 64)) this_word ∙ here;
    others = other_mark;
    words = λ i apart. get_or-set_other words (n / 64) i word 0 apart;
  }

module _ (words : List ℕ) (n : ℕ) (within : n < 64 * length words) where
  abbrev old : ℕ
  old = slice_index words (n / 64)

  abbrev bit : ℕ
  bit = 1 * 2 ^ (n % 64) % 2 ^ 64

  pub set_marks : Marks words n true (slice_set words (n / 64) (bit_or old bit))
  set_marks = marks words n (bit_or old bit) true within
      (ap is_one (bit_at_set_same w64 old (n % 64) (omega arith)))
      (λ i small apart. bit_at_set_other w64 old (n % 64) (omega arith) i apart)

  pub clear_marks : Marks words n false (slice_set words (n / 64) (bit_and old (bit_not w64 bit)))
  clear_marks = marks words n (bit_and old (bit_not w64 bit)) false within
      (ap is_one (bit_at_clear_same w64 old (n % 64) (omega arith)))
      (λ i small apart. bit_at_clear_other w64 old (n % 64) (omega arith) i small apart)

-- ---- the last bit of a word
top_one : (word k : ℕ) → 2 ^ k ≤ word → word < 2 * 2 ^ k → bit_at word k ≡ 1
top_one word k low high =
    let p = pow_pos k in
    let a : word / 2 ^ k < 2 = (div-lt_iff_lt-mul p).1 high in
    let b : 1 ≤ word / 2 ^ k = (le-div_iff_mul-le p).1 (omega arith) in
    omega arith

pub top_is : (word k : ℕ) → k < 64 → 2 ^ k ≤ word → word < 2 * 2 ^ k → IsLastPass (has_bit word) 63 k
top_is word k small low high = record {
  up_to = omega arith;
  met = ap is_one (top_one word k low high);
  none = λ m above up. ap is_one (bit_at_above word (suc k) m (omega (arith, high, pow-suc 2 k)) (omega arith));
}

module _ (word n : ℕ) (small : n < 64) where
  abbrev kept : ℕ
  kept = bit_and word ((2 ^ 64 - 1) / 2 ^ (63 - n))

  kept_is : kept ≡ bit_and word (2 ^ suc n - 1)
  kept_is =
      let same : 64 - (63 - n) ≡ suc n = omega arith in
      ap (bit_and word) (ones_shr 64 (63 - n) (omega arith) ∙ ap (λ k. 2 ^ k - 1) same)

  low_bit : (i : ℕ) → i ≤ n → bit_at kept i ≡ bit_at word i
  low_bit i up = ap (λ w. bit_at w i) kept_is ∙ omega (arith, bit_at_and word (2 ^ suc n - 1) i, bit_at_ones (suc n) i (omega arith), bit_at-lt word i)

  high_bit : (i : ℕ) → n < i → bit_at kept i ≡ 0
  high_bit i past = ap (λ w. bit_at w i) kept_is ∙ omega (arith, bit_at_and word (2 ^ suc n - 1) i, bit_at_ones_above (suc n) i (omega arith))

  pub none_kept : kept ≡ 0 → IsLastUpTo (has_bit word) n None
  none_kept none m up = ap is_one (sym (low_bit m up) ∙ (ap (λ w. bit_at w m) none ∙ bit_at-zero m))

  pub last_kept : (k : ℕ) → IsLastPass (has_bit kept) 63 k → IsLastPass (has_bit word) n k
  last_kept k last =
      let up : k ≤ n = elim (cases_lt n k) [
        | inl past ↦ absurd (let no : false ≡ true = sym (ap is_one (high_bit k past)) ∙ last.met in cc)
        | inr fine ↦ fine
      ] in
      record {
        up_to = up;
        met = sym (ap is_one (low_bit k up)) ∙ last.met;
        none = λ m above to. sym (ap is_one (low_bit m to)) ∙ last.none m above (omega arith);
      }

-- ---- the last mark
module _ (words : List ℕ) (n : ℕ) where
  pub none_in_word : IsLastUpTo (has_bit (slice_index words (n / 64))) (n % 64) None → (m : ℕ) → m / 64 ≡ n / 64 → m ≤ n → is_marked words m ≡ false
  none_in_word none m same up = ap (λ i. has_bit (slice_index words i) (m % 64)) same ∙ none (m % 64) (omega arith)

  pub last_in_word : (bit : ℕ) → IsLastPass (has_bit (slice_index words (n / 64))) (n % 64) bit → IsLastPass (is_marked words) n (64 * (n / 64) + bit)
  last_in_word bit last =
      let up = last.up_to in
      let word : (64 * (n / 64) + bit) / 64 ≡ n / 64 = omega (arith, up) in
      let place : (64 * (n / 64) + bit) % 64 ≡ bit = omega (arith, up) in
      record {
        up_to = omega (arith, up);
        met = ap (λ i. has_bit (slice_index words i) ((64 * (n / 64) + bit) % 64)) word ∙ (ap (has_bit (slice_index words (n / 64))) place ∙ last.met);
        none = λ m above to.
            let same : m / 64 ≡ n / 64 = omega (arith, up) in
            ap (λ i. has_bit (slice_index words i) (m % 64)) same ∙ last.none (m % 64) (omega (arith, up)) (omega (arith, up));
      }

  -- none from the end on
  abbrev pub NoneFrom : ℕ → Type 0
  NoneFrom end = (m : ℕ) → end ≤ m → m ≤ n → is_marked words m ≡ false

  pub last_walked : (end last : ℕ) → 0 < end → end ≤ n + 1 → NoneFrom end → IsLastPass (is_marked words) (end - 1) last → IsLastPass (is_marked words) n last
  last_walked end last some within none is = record {
    up_to = omega (arith, is.up_to);
    met = is.met;
    none = λ m above to. elim (cases_lt m end) [
      | inl before ↦ is.none m above (omega arith)
      | inr behind ↦ none m behind to
    ];
  }

-- of a word's last mark
module _ (words : List ℕ) (n : ℕ) where
  pub word_found : (r : Option ℕ) → is_some r ≡ true → IsLastInWord words n r → IsLastUpTo (is_marked words) n r
  word_found None some last = absurd (let no : false ≡ true = some in cc)
  word_found (Some m) some last = last

  pub word_lacks : (r : Option ℕ) → is_some r ≡ false → IsLastInWord words n r → IsLastInWord words n None
  word_lacks None none last = last
  word_lacks (Some m) none last = absurd (let no : true ≡ false = none in cc)

  pub walked_found : (end : ℕ) → 0 < end → end ≤ n + 1 → NoneFrom words n end → (r : Option ℕ) → is_some r ≡ true → IsLastInWord words (end - 1) r → IsLastUpTo (is_marked words) n r
  walked_found end some within none None found last = absurd (let no : false ≡ true = found in cc)
  walked_found end some within none (Some m) found last = last_walked words n end m some within none last

  pub walked_on : (end : ℕ) → 0 < end → NoneFrom words n end → (r : Option ℕ) → is_some r ≡ false → IsLastInWord words (end - 1) r → NoneFrom words n (64 * ((end - 1) / 64))
  walked_on end some none (Some m) lacks last m2 from to = absurd (let no : true ≡ false = lacks in cc)
  walked_on end some none None lacks last m from to = elim (cases_lt m end) [
    | inl before ↦ last m (omega (arith, before, from)) (omega (arith, before))
    | inr behind ↦ none m behind to
  ]

-- ---- low words and high ones
pub summed_on : (low high low2 high2 : List ℕ) (n : ℕ) (value : Bool) → AreSummed low high → Marks low n value low2 → Marks high (n / 64) (not (slice_index low2 (n / 64) == 0)) high2 → AreSummed low2 high2
summed_on low high low2 high2 n value h l k = record {
  low_all = l.all ∙ h.low_all;
  high_all = k.all ∙ h.high_all;
  tells = λ i small. elim (cases_eq i (n / 64)) [
    | inl same ↦ ap (is_marked high2) same ∙ (k.here ∙ ap (λ j. not (slice_index low2 j == 0)) (sym same))
    | inr other ↦ k.others i other ∙ (h.tells i small ∙ ap (λ w. not (w == 0)) (sym (l.words i other)))
  ];
}

zero_by : (word : ℕ) (b : Bool) → (word == 0) ≡ b → not b ≡ false → word ≡ 0
zero_by word true e h = eqb-true word 0 e
zero_by word false e h = absurd (let no : true ≡ false = h in cc)

some_by : (word : ℕ) → not (word == 0) ≡ true → 0 < word
some_by word h = elim (cases_eq word 0) [
  | inl none ↦ absurd (let no : false ≡ true = sym (ap (λ (w : ℕ). not (w == 0)) none) ∙ h in cc)
  | inr some ↦ omega (arith, some)
]

module _ (low high : List ℕ) (n : ℕ) (within : n < MOST_MARKS) (h : AreSummed low high) (own : IsLastInWord low n None) where
  pub none_first : n < 64 → IsLastUpTo (is_marked low) n None
  none_first first m up = own m (omega (arith, first, up)) up

  none_of : (m : ℕ) → m ≤ n → is_marked high (m / 64) ≡ false → is_marked low m ≡ false
  none_of m up none =
      let word : slice_index low (m / 64) ≡ 0 = zero_by (slice_index low (m / 64)) (slice_index low (m / 64) == 0) refl (sym (h.tells (m / 64) (omega arith)) ∙ none) in
      ap (λ w. has_bit w (m % 64)) word ∙ ap is_one (bit_at-zero (m % 64))

  module _ (some : 0 < n / 64) where
    pub none_before : IsLastUpTo (is_marked high) (n / 64 - 1) None → IsLastUpTo (is_marked low) n None
    none_before none m up = elim (cases_eq (m / 64) (n / 64)) [
      | inl same ↦ own m same up
      | inr other ↦ none_of m up (none (m / 64) (omega (arith, other)))
    ]

    module _ (before : ℕ) (last : IsLastPass (is_marked high) (n / 64 - 1) before) where
      pub some_before : 0 < slice_index low before
      some_before = some_by (slice_index low before) (sym (h.tells before (omega (arith, last.up_to))) ∙ last.met)

      pub last_before : (bit : ℕ) → IsLastPass (has_bit (slice_index low before)) 63 bit → IsLastPass (is_marked low) n (64 * before + bit)
      last_before bit top =
          let up = top.up_to in
          let below = last.up_to in
          let word : (64 * before + 63) / 64 ≡ before = omega arith in
          let place : (64 * before + 63) % 64 ≡ 63 = omega arith in
          let there : IsLastPass (has_bit (slice_index low ((64 * before + 63) / 64))) ((64 * before + 63) % 64) bit = rw (word, place) top in
          let in_word = last_in_word low (64 * before + 63) bit there in
          let same : 64 * ((64 * before + 63) / 64) + bit ≡ 64 * before + bit = omega arith in
          record {
            up_to = omega (arith, up, below, some);
            met = ap (is_marked low) (sym same) ∙ in_word.met;
            none = λ m above to. elim (cases_eq (m / 64) (n / 64)) [
              | inl own_word ↦ own m own_word to
              | inr other ↦ elim (cases_lt before (m / 64)) [
                | inl past ↦ none_of m to (last.none (m / 64) past (omega (arith, other)))
                | inr fine ↦ in_word.none m (omega (arith, above, same)) (omega (arith, fine))
              ]
            ];
          }

-- so many words without a mark
pub all_blank : (n i : ℕ) → slice_index (replicate n 0) i ≡ 0
all_blank n i = elim (cases_lt i n) [
  | inl within ↦ get_or-replicate n i 0 0 within
  | inr past ↦ get_or_past (replicate {A = ℕ} n 0) i 0 (let all = length-replicate {A = ℕ} n 0 in omega (arith, all, past))
]

blank_mark : (words : List ℕ) → ((i : ℕ) → slice_index words i ≡ 0) → (n : ℕ) → is_marked words n ≡ false
blank_mark words zeros n = ap (λ w. has_bit w (n % 64)) (zeros (n / 64)) ∙ ap is_one (bit_at-zero (n % 64))

-- no number is marked
module _ (low high : List ℕ) (none : (i : ℕ) → slice_index low i ≡ 0) where
  pub blank_marks : (n : ℕ) → is_marked low n ≡ false
  blank_marks = blank_mark low none

  pub blank_summed : length low ≡ LOW_WORDS → length high ≡ HIGH_WORDS → ((i : ℕ) → slice_index high i ≡ 0) → AreSummed low high
  blank_summed low_all high_all none_high = record {
    low_all = low_all;
    high_all = high_all;
    tells = λ i small. blank_mark high none_high i ∙ ap (λ (w : ℕ). not (w == 0)) (sym (none i));
  }

-- words that were cleared
module _ (n : ℕ) (words : List ℕ) (is : words ≡ replicate n 0) where
  pub cleared_all : length words ≡ n
  cleared_all = ap length is ∙ length-replicate {A = ℕ} n 0

  pub cleared_blank : (i : ℕ) → slice_index words i ≡ 0
  cleared_blank i = ap (λ (w : List ℕ). slice_index w i) is ∙ all_blank n i
