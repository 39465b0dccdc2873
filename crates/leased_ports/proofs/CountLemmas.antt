-- How many numbers pass a test, and how many ids fall due.
use Rattle.std.specs.Prelude.{◌≢◌}
use Rattle.std.proofs.Common.{◌≡◌, ℕ, zero, suc, ◌+◌, ◌<◌, ◌≤◌, Bool, true, false, cond, Option, refl, sym, ap, ◌∙◌, inl, inr, arith}
use Rattle.std.specs.Ordering.{nat_cmp}
use Rattle.std.specs.FinMap.{FinMap, get}
use Rattle.expiry_wheel.proofs.Maps.{same_or_not}
use Rattle.leased_ports.specs.Falling.{is_due, due_below}
use Rattle.leased_ports.specs.Counts.{count_below}

abbrev pub one : Bool → ℕ
one b = cond {A = ℕ} b 1 0

pub one_le : (a b : Bool) → (a ≡ true → b ≡ true) → one a ≤ one b
one_le true b h = let is : one b ≡ 1 = ap one (h refl) in omega (arith, is)
one_le false b h = omega arith

-- the numbers at which something waits that is due are some of those that pass
pub due-counted : (m : ℕ) (waits : FinMap nat_cmp ℕ) (p : ℕ → Bool) → ((s : ℕ) → is_due m (get waits s) ≡ true → p s ≡ true) → (n : ℕ) → due_below m waits n ≤ count_below p n
unfolding due_below count_below
due-counted m waits p h zero = omega arith
due-counted m waits p h (suc n) =
    let rest = due-counted m waits p h n in
    let here : one (is_due m (get waits n)) ≤ one (p n) = one_le (is_due m (get waits n)) (p n) (h n) in
    omega (arith, rest, here)

pub count-same : (p q : ℕ → Bool) (n : ℕ) → ((i : ℕ) → i < n → p i ≡ q i) → count_below p n ≡ count_below q n
unfolding count_below
count-same p q zero h = refl
count-same p q (suc n) h =
    let rest = count-same p q n (λ i less. h i (omega (arith, less))) in
    let here : one (p n) ≡ one (q n) = ap one (h n (omega arith)) in
    omega (arith, rest, here)

pub count-split : (p : ℕ → Bool) (a b : ℕ) → count_below p (a + b) ≡ count_below p a + count_below (λ i. p (a + i)) b
unfolding count_below
count-split p a zero = let same : a + 0 ≡ a = omega arith in let is = ap (count_below p) same in omega (arith, is)
count-split p a (suc b) =
    let same : a + suc b ≡ suc (a + b) = omega arith in
    let is : count_below p (a + suc b) ≡ count_below p (a + b) + one (p (a + b)) = ap (count_below p) same in
    let rest = count-split p a b in
    omega (arith, is, rest)

-- what passes is some of what passes another test
pub count-some : (p q : ℕ → Bool) (n : ℕ) → ((i : ℕ) → i < n → q i ≡ true → p i ≡ true) → count_below q n ≤ count_below p n
unfolding count_below
count-some p q zero h = omega arith
count-some p q (suc n) h =
    let rest = count-some p q n (λ i less. h i (omega (arith, less))) in
    let here : one (q n) ≤ one (p n) = one_le (q n) (p n) (h n (omega arith)) in
    omega (arith, rest, here)

pub count-none : (p : ℕ → Bool) (n : ℕ) → ((i : ℕ) → i < n → p i ≡ false) → count_below p n ≡ 0
unfolding count_below
count-none p zero h = refl
count-none p (suc n) h =
    let rest = count-none p n (λ i less. h i (omega (arith, less))) in
    let here : one (p n) ≡ 0 = ap one (h n (omega arith)) in
    omega (arith, rest, here)

-- where one number passes no more and the others stay, one less passes
module _ (p q : ℕ → Bool) (k : ℕ) (others : (i : ℕ) → i ≢ k → q i ≡ p i) where
  pub count-less : p k ≡ true → q k ≡ false → (n : ℕ) → k < n → count_below q n + 1 ≡ count_below p n
  unfolding count_below
  count-less was isnt zero h = absurd (omega (arith, h))
  count-less was isnt (suc n) h = elim (same_or_not k n) [
    | inl same ↦ (let rest = count-same q p n (λ i less. others i (λ e. omega (arith, e, less, same))) in
        let before : one (p n) ≡ 1 = ap (λ (i : ℕ). one (p i)) (sym same) ∙ ap one was in
        let after : one (q n) ≡ 0 = ap (λ (i : ℕ). one (q i)) (sym same) ∙ ap one isnt in
        omega (arith, rest, before, after))
    | inr other ↦ (let less : k < n = grind (arith, h, other) in
        let rest = count-less was isnt n less in
        let tally : one (q n) ≡ one (p n) = ap one (others n (λ e. other (sym e))) in
        omega (arith, rest, tally))
  ]

-- ---- how many ids fall due

module _ (m : ℕ) (waits next : FinMap nat_cmp ℕ) (id : ℕ) (others : (other : ℕ) → other ≢ id → get next other ≡ get waits other) where
  due_same : (n : ℕ) → n ≤ id → due_below m next n ≡ due_below m waits n
  unfolding due_below
  due_same zero h = refl
  due_same (suc n) h =
      let rest = due_same n (omega (arith, h)) in
      let here : get next n ≡ get waits n = others n (λ e. omega (arith, e, h)) in
      let tally : one (is_due m (get next n)) ≡ one (is_due m (get waits n)) = ap (λ (o : Option ℕ). one (is_due m o)) here in
      omega (arith, rest, tally)

  pub due_less : is_due m (get waits id) ≡ true → is_due m (get next id) ≡ false → (n : ℕ) → id < n → due_below m next n + 1 ≡ due_below m waits n
  unfolding due_below
  due_less was isnt zero h = absurd (omega (arith, h))
  due_less was isnt (suc n) h = elim (same_or_not id n) [
    | inl same ↦ (let rest = due_same n (omega (arith, same)) in
        let before : one (is_due m (get waits n)) ≡ 1 = ap (λ (k : ℕ). one (is_due m (get waits k))) (sym same) ∙ ap one was in
        let after : one (is_due m (get next n)) ≡ 0 = ap (λ (k : ℕ). one (is_due m (get next k))) (sym same) ∙ ap one isnt in
        omega (arith, rest, before, after))
    | inr other ↦ (let less : id < n = grind (arith, h, other) in
        let rest = due_less was isnt n less in
        let here : get next n ≡ get waits n = others n (λ e. other (sym e)) in
        let tally : one (is_due m (get next n)) ≡ one (is_due m (get waits n)) = ap (λ (o : Option ℕ). one (is_due m o)) here in
        omega (arith, rest, tally))
  ]
