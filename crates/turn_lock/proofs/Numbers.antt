-- Lists in which each number stands once at most.
use Rattle.std.proofs.Common.{◌≡◌, ℕ, zero, suc, ◌+◌, ◌<◌, ◌≤◌, ◌≢◌, Bool, true, false, eqb, List, [], ◌∷◌, ◌++◌, length, refl, ap, sym, subst, ◌∙◌, arith, zero-le, length-append}
use Rattle.std.specs.List.{range_with_len}
use Rattle.std.proofs.lemmas.Bool.{eqb-true}
use mathlib.Core.Logic.{dite}
use native.Mathlib.Decide.{ℕ_discrete}
use Rattle.turn_lock.specs.Passes.{PassKnowledge, IsPlaced}
use Rattle.turn_lock.specs.Places.{one_if, occurrences}
use Rattle.turn_lock.proofs.Sums.{occurrences-append, one_hit, one_miss, from_before}

-- the list without a number
keep_if : Bool → ℕ → List ℕ → List ℕ
keep_if true y ys = ys
keep_if false y ys = y ∷ ys

without : ℕ → List ℕ → List ℕ
without n [] = []
without n (y ∷ ys) = keep_if (eqb y n) y (without n ys)

without_length : (n : ℕ) (xs : List ℕ) → length xs ≡ length (without n xs) + occurrences n xs
unfolding without keep_if
without_length n [] = refl
without_length n (y ∷ ys) = go (eqb y n) (without_length n ys)
  where
    go : (b : Bool) → length ys ≡ length (without n ys) + occurrences n ys → suc (length ys) ≡ length (keep_if b y (without n ys)) + (one_if b + occurrences n ys)
    go true e = omega arith
    go false e = omega arith

without_none : (n : ℕ) (xs : List ℕ) → occurrences n (without n xs) ≡ 0
unfolding without keep_if
without_none n [] = refl
without_none n (y ∷ ys) = go (eqb y n) refl (without_none n ys)
  where
    go : (b : Bool) → eqb y n ≡ b → occurrences n (without n ys) ≡ 0 → occurrences n (keep_if b y (without n ys)) ≡ 0
    go true is e = e
    go false is e = let o : one_if (eqb y n) ≡ 0 = ap one_if is in omega arith

-- of each other number it has as many
without_others : (n x : ℕ) (xs : List ℕ) → x ≢ n → occurrences x (without n xs) ≡ occurrences x xs
unfolding without keep_if
without_others n x [] ne = refl
without_others n x (y ∷ ys) ne = go (eqb y n) refl (without_others n x ys ne)
  where
    go : (b : Bool) → eqb y n ≡ b → occurrences x (without n ys) ≡ occurrences x ys → occurrences x (keep_if b y (without n ys)) ≡ one_if (eqb y x) + occurrences x ys
    go true is e = let m : one_if (eqb y x) ≡ 0 = one_miss y x (λ same. ne (sym same ∙ eqb-true y n is)) in omega arith
    go false is e = omega arith

-- each number stands there once at most, and those that do are among the k numbers from n on
pub record AreWithin (n k : ℕ) (xs : List ℕ) : Type 0 where
  pub once : (x : ℕ) → occurrences x xs ≤ 1
  pub low : (x : ℕ) → 0 < occurrences x xs → n ≤ x
  pub high : (x : ℕ) → 0 < occurrences x xs → x < n + k

-- without the first of these numbers, they are among the others
rest_within : (n k : ℕ) (xs : List ℕ) → AreWithin n (suc k) xs → AreWithin (n + 1) k (without n xs)
rest_within n k xs w = record {
  once = λ x. dite (ℕ_discrete x n) (λ e. let z = gone x e in omega arith) (λ ne. let s = without_others n x xs ne in let o = w.once x in omega arith);
  low = λ x p. dite (ℕ_discrete x n) (λ e. let z = gone x e in absurd (omega arith)) (λ ne. let s = without_others n x xs ne in let l = w.low x (omega arith) in omega arith);
  high = λ x p. dite (ℕ_discrete x n) (λ e. let z = gone x e in absurd (omega arith)) (λ ne. let s = without_others n x xs ne in let h : x < n + suc k = w.high x (omega arith) in omega arith);
}
  where
    gone : (x : ℕ) → x ≡ n → occurrences x (without n xs) ≡ 0
    gone x e = subst (λ (m : ℕ). occurrences m (without n xs) ≡ 0) (sym e) (without_none n xs)

-- so they are no more than k
few_within : (n k : ℕ) (xs : List ℕ) → AreWithin n k xs → length xs ≤ k
few_within n zero [] w = zero-le
few_within n zero (y ∷ ys) w =
    let o : one_if (eqb y y) ≡ 1 = one_hit y y refl in
    let l : n ≤ y = w.low y (omega arith) in
    let h : y < n + zero = w.high y (omega arith) in absurd (omega arith)
few_within n (suc k) xs w =
    let l = without_length n xs in
    let o = w.once n in
    let r = few_within (n + 1) k (without n xs) (rest_within n k xs w) in omega arith

-- and where they are k, they are all of these
pub all_within : (n k : ℕ) (xs : List ℕ) → AreWithin n k xs → length xs ≡ k → (x : ℕ) → occurrences x xs ≡ occurrences x (range_with_len n k)
all_within n zero [] w e x = refl
all_within n zero (y ∷ ys) w e x = absurd (omega arith)
all_within n (suc k) xs w e x =
    let l = without_length n xs in
    let o = w.once n in
    let smaller = rest_within n k xs w in
    let few = few_within (n + 1) k (without n xs) smaller in
    let r = all_within (n + 1) k (without n xs) smaller (omega arith) x in
    let first : occurrences n xs ≡ 1 = omega arith in
    dite (ℕ_discrete n x)
    (λ same. let a : occurrences x xs ≡ 1 = subst (λ (m : ℕ). occurrences m xs ≡ 1) same first in let b = one_hit n x same in let c = from_before x (n + 1) k (omega arith) in omega arith)
    (λ ne. let a = without_others n x xs (λ same. ne (sym same)) in let b = one_miss n x ne in omega arith)

pub few_places : {E M : Type 0} (p : PassKnowledge E M) → IsPlaced p → length p.mine + length p.settled ≤ length p.seen
few_places p placed =
    let both : length (p.mine ++ p.settled) ≡ length p.mine + length p.settled = length-append p.mine p.settled in
    let few = few_within 0 (length p.seen) (p.mine ++ p.settled) record {
      once = λ x. let a = occurrences-append x p.mine p.settled in let b = placed.0 x in omega arith;
      low = λ x q. zero-le;
      high = λ x q. let a = occurrences-append x p.mine p.settled in let b = placed.1 x (omega arith) in omega arith;
    } in
    omega arith
