-- How many octets in front of two copies are the same.
use Rattle.std.proofs.Common.{◌≡◌, ℕ, zero, suc, ◌<◌, ◌≤◌, List, [], ◌∷◌, drop, get_or, length, min, refl, ap, cond, arith}
use Rattle.std.proofs.lemmas.Bool.{eq-eqb, ne_eqb}
use Rattle.watch_readings.specs.Copies.{common}

pub common_same : (xs ys : List ℕ) (i : ℕ) → i < length xs → i < length ys → get_or xs i 0 ≡ get_or ys i 0
    → common (drop i xs) (drop i ys) ≡ suc (common (drop (suc i) xs) (drop (suc i) ys))
common_same [] ys i in_xs in_ys same = absurd (omega (arith, in_xs))
common_same (x ∷ xs) [] i in_xs in_ys same = absurd (omega (arith, in_ys))
common_same (x ∷ xs) (y ∷ ys) zero in_xs in_ys same = ap (λ b. cond b (suc (common xs ys)) 0) (eq-eqb x y same)
common_same (x ∷ xs) (y ∷ ys) (suc i) in_xs in_ys same = common_same xs ys i (omega (arith, in_xs)) (omega (arith, in_ys)) same

pub common_differs : (xs ys : List ℕ) (i : ℕ) → i < length xs → i < length ys → (get_or xs i 0 ≡ get_or ys i 0 → ⊥)
    → common (drop i xs) (drop i ys) ≡ 0
common_differs [] ys i in_xs in_ys other = absurd (omega (arith, in_xs))
common_differs (x ∷ xs) [] i in_xs in_ys other = absurd (omega (arith, in_ys))
common_differs (x ∷ xs) (y ∷ ys) zero in_xs in_ys other = ap (λ b. cond b (suc (common xs ys)) 0) (ne_eqb x y other)
common_differs (x ∷ xs) (y ∷ ys) (suc i) in_xs in_ys other = common_differs xs ys i (omega (arith, in_xs)) (omega (arith, in_ys)) other

common_none : (xs : List ℕ) → common xs [] ≡ 0
common_none [] = refl
common_none (x ∷ xs) = refl

pub common_ended : (xs ys : List ℕ) (i : ℕ) → min (length xs) (length ys) ≤ i → common (drop i xs) (drop i ys) ≡ 0
common_ended [] ys zero past = refl
common_ended [] ys (suc i) past = refl
common_ended (x ∷ xs) [] zero past = refl
common_ended (x ∷ xs) [] (suc i) past = common_none (drop i xs)
common_ended (x ∷ xs) (y ∷ ys) zero past = absurd (omega (arith, past))
common_ended (x ∷ xs) (y ∷ ys) (suc i) past = common_ended xs ys i (omega (arith, past))
