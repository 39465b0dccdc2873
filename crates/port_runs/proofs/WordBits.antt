-- Runs of bits in a word, and words with some bits set or cleared.
use Rattle.std.proofs.Common.{◌≡◌, ℕ, suc, ◌+◌, ◌-◌, ◌*◌, ◌/◌, ◌%◌, ◌^◌, ◌<◌, ◌≤◌, true, false, cond, nat_lt, refl, sym, ◌∙◌, ap, subst, arith, inl, inr, w64, bit_and, bit_or}
use Rattle.std.proofs.lemmas.Bool.{cases_lt}
use Rattle.std.proofs.lemmas.Bool.Decides.{nat_tests}
use Rattle.std.proofs.lemmas.Nat.{shr-shr, shr_le, shr_high, leading_length}
use Rattle.std.proofs.Math.Nat.{pow-suc}
use Rattle.std.proofs.lemmas.Nat.Bits.{bit_at_and, bit_at_or, bit_at_not, bit_at_ones, bit_at_ones_above, bit_at_above, bit_at_mask_inside, bit_at_mask_below, bit_at-trailing_ones, bit_at-lt, ones_shl, ones_shr}
use Rattle.std.specs.Int.{bit_at, bit_not, trailing_ones, leading_ones}
use lib.Count.{count_trailing_zeros}
use Rattle.port_runs.specs.Bits.{IsBitRun, IsBitSuffix, IsNextRun, IsMask, IsWordMarked}

-- a bit is not both
pub one_and_zero : (word i : ℕ) → bit_at word i ≡ 1 → bit_at word i ≡ 0 → ⊥
one_and_zero word i is isnt = absurd (omega arith)

-- `trailing_ones` of any word
pub record AreTrailingOnes (n run : ℕ) : Type 0 where
  pub within : run ≤ 64
  pub set : (i : ℕ) → i < run → bit_at n i ≡ 1
  pub ends : run < 64 → bit_at n run ≡ 0

all_ones : trailing_ones w64 (2 ^ 64 - 1) ≡ 64
unfolding count_trailing_zeros
all_ones = refl

trailing_are : (n : ℕ) → n < 2 ^ 64 → AreTrailingOnes n (trailing_ones w64 n)
trailing_are n fits = elim (cases_lt (n + 1) (2 ^ 64)) [
  | inl less ↦ (let h = bit_at-trailing_ones w64 n less in record { within = (let w = h.0 in omega arith); set = h.2; ends = λ _. h.1 })
  | inr full ↦
      let is : 2 ^ 64 - 1 ≡ n = omega arith in
      subst (λ (m : ℕ). AreTrailingOnes m (trailing_ones w64 m)) is
      (rw all_ones (record { within = omega arith; set = λ i small. bit_at_ones 64 i small; ends = λ less. absurd (omega arith) }))
]

bit_behind : (word place i : ℕ) → bit_at (word / 2 ^ place) i ≡ bit_at word (place + i)
bit_behind word place i = ap (λ x. x % 2) (shr-shr word place i)

pub run_is : (word place run : ℕ) → word < 2 ^ 64 → place ≤ 64 → AreTrailingOnes (word / 2 ^ place) run → IsBitRun word place run
run_is word place run fits small h =
    let within : place + run ≤ 64 = elim (cases_lt 64 (place + run)) [
      | inr fine ↦ fine
      | inl over ↦
          let same : place + (64 - place) ≡ 64 = omega arith in
          absurd (one_and_zero word 64 (ap (bit_at word) (sym same) ∙ (sym (bit_behind word place (64 - place)) ∙ h.set (64 - place) (omega arith))) (bit_at_above word 64 64 fits (omega arith)))
    ] in
    record {
      within = within;
      set = λ i from to.
          let same : place + (i - place) ≡ i = omega arith in
          ap (bit_at word) (sym same) ∙ (sym (bit_behind word place (i - place)) ∙ h.set (i - place) (omega arith));
      ends = λ less. sym (bit_behind word place run) ∙ h.ends (omega arith);
    }

pub shifted_out : (word place : ℕ) → word < 2 ^ 64 → place ≤ 64 → cond (nat_lt place 64) (word / 2 ^ place) 0 ≡ word / 2 ^ place
shifted_out word place fits small = elim (cases_lt place 64) [
  | inl less ↦ (let is : nat_lt place 64 ≡ true = grind (arith, nat_tests) in rw is)
  | inr last ↦
      let isnt : nat_lt place 64 ≡ false = grind (arith, nat_tests) in
      let here : place ≡ 64 = omega arith in
      rw (isnt, here) (let none : word / 2 ^ 64 ≡ 0 = omega arith in sym none)
]

pub run_by_calls : (word place shifted run : ℕ) → word < 2 ^ 64 → place ≤ 64 → shifted ≡ cond (nat_lt place 64) (word / 2 ^ place) 0 → run ≡ trailing_ones w64 shifted → IsBitRun word place run
run_by_calls word place shifted run fits small shift is =
    let all : shifted ≡ word / 2 ^ place = shift ∙ shifted_out word place fits small in
    let less : word / 2 ^ place < 2 ^ 64 = omega (arith, sym all, shr_le word place) in
    run_is word place run fits small
    (subst (λ (r : ℕ). AreTrailingOnes (word / 2 ^ place) r) (sym (is ∙ ap (trailing_ones w64) all)) (trailing_are (word / 2 ^ place) less))

abbrev bit_at_place : ℕ → ℕ → ℕ
bit_at_place k n = bit_at n k

-- the highest bit of a number
top_bit : (n k : ℕ) → 2 ^ k ≤ n → n < 2 * 2 ^ k → bit_at n k ≡ 1
top_bit n k from below =
    let split : n ≡ 1 * 2 ^ k + (n - 2 ^ k) = omega arith in
    ap (bit_at_place k) split ∙ ap (λ x. x % 2) (shr_high 1 k (n - 2 ^ k) (omega arith))

-- `leading_ones`
module _ (word run : ℕ) (fits : word < 2 ^ 64) (is : run ≡ leading_ones w64 word) where
  pub suffix_is : IsBitSuffix word run
  suffix_is =
      let not : ℕ = bit_not w64 word in
      let top = leading_length 64 not (omega arith) in
      let rest = top.0 in
      let sum : run + rest ≡ 64 = omega (arith, is, top.1) in
      record {
        within = omega arith;
        set = λ i from to. omega (arith, bit_at_above not rest i top.2 (omega arith), bit_at_not w64 word i fits to, bit_at-lt word i);
        ends = λ i here.
            let one : suc i ≡ rest = omega arith in
            let more : 2 ^ suc i ≤ 2 * not + 1 = subst (λ (m : ℕ). 2 ^ m ≤ 2 * not + 1) (sym one) top.3 in
            let below : not < 2 ^ suc i = subst (λ (m : ℕ). not < 2 ^ m) (sym one) top.2 in
            omega (arith, top_bit not i (omega (arith, pow-suc 2 i)) (omega (arith, pow-suc 2 i)), bit_at_not w64 word i fits (omega arith), bit_at-lt word i);
      }

-- the next run
pub next_run_is : (word gap place start stop run : ℕ) → word < 2 ^ 64 → place ≤ 64 → IsBitRun (bit_not w64 word) place gap → start ≡ place + gap → IsBitRun word start run → stop ≡ start + run → IsNextRun word place start stop
next_run_is word gap place start stop run fits small g begins r ends = record {
  from = omega arith;
  ordered = omega arith;
  within = omega (arith, r.within);
  clear = λ i from to. (let within = g.within in omega (arith, bit_at_not w64 word i fits (omega arith), g.set i from (omega arith), bit_at-lt word i));
  set = λ i from to. r.set i from (omega arith);
  ends = λ less. ap (bit_at word) ends ∙ r.ends (omega arith);
}

-- `MAX << low & MAX >> (64 - high)`
pub mask_is : (low high : ℕ) → low < high → high ≤ 64 → IsMask low high (bit_and ((2 ^ 64 - 1) * 2 ^ low % 2 ^ 64) ((2 ^ 64 - 1) / 2 ^ (64 - high)))
mask_is low high ordered within =
    let from : (2 ^ 64 - 1) * 2 ^ low % 2 ^ 64 ≡ 2 ^ 64 - 2 ^ low = ones_shl 64 low (omega arith) in
    let same : 64 - (64 - high) ≡ high = omega arith in
    let to : (2 ^ 64 - 1) / 2 ^ (64 - high) ≡ 2 ^ high - 1 = ones_shr 64 (64 - high) (omega arith) ∙ ap (λ k. 2 ^ k - 1) same in
    rw (from, to) (record {
      inside = λ i lower upper. omega (arith, bit_at_and (2 ^ 64 - 2 ^ low) (2 ^ high - 1) i, bit_at_mask_inside low 64 i lower (omega arith), bit_at_ones high i upper);
      below = λ i less. omega (arith, bit_at_and (2 ^ 64 - 2 ^ low) (2 ^ high - 1) i, bit_at_mask_below low 64 i less);
      above = λ i past. omega (arith, bit_at_and (2 ^ 64 - 2 ^ low) (2 ^ high - 1) i, bit_at_ones_above high i past);
    })

-- a word whose bits in a mask are set or cleared
pub word_set : (low high word mask : ℕ) → IsMask low high mask → IsWordMarked low high true word (bit_or word mask)
word_set low high word mask m = record {
  inside = λ i from to. omega (arith, bit_at_or word mask i, m.inside i from to, bit_at-lt word i);
  below = λ i less small. omega (arith, bit_at_or word mask i, m.below i less);
  above = λ i past fits. omega (arith, bit_at_or word mask i, m.above i past);
}

pub word_cleared : (low high word mask : ℕ) → mask < 2 ^ 64 → high ≤ 64 → IsMask low high mask → IsWordMarked low high false word (bit_and word (bit_not w64 mask))
word_cleared low high word mask fits within m = record {
  inside = λ i from to. omega (arith, bit_at_and word (bit_not w64 mask) i, bit_at_not w64 mask i fits (omega arith), m.inside i from to);
  below = λ i less small. omega (arith, bit_at_and word (bit_not w64 mask) i, bit_at_not w64 mask i fits small, m.below i less, bit_at-lt word i);
  above = λ i past small. omega (arith, bit_at_and word (bit_not w64 mask) i, bit_at_not w64 mask i fits small, m.above i past, bit_at-lt word i);
}
