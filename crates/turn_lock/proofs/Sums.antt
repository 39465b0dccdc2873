-- Sums over lists of views, and how often places stand in lists.
use Rattle.std.proofs.Common.{◌≡◌, ℕ, zero, suc, ◌+◌, ◌<◌, ◌≤◌, ◌≢◌, ◌⊎◌, inl, inr, eqb, eq-eqb, ne_eqb, List, [], ◌∷◌, ◌++◌, set, refl, ap, sym, arith, zero-le}
use mathlib.Core.Option.{some, some-injective, some-ne-none}
use mathlib.Core.Logic.{dite}
use native.Mathlib.Decide.{ℕ_discrete}
use lib.ListN.{get_elem?}
use Rattle.std.specs.List.{range_with_len}
use Rattle.turn_lock.specs.Places.{one_if, total, occurrences}

module _ {A : Type 0} (f : A → ℕ) where
  pub total_set : (vs : List A) (i : ℕ) (v w : A) → get_elem? vs i ≡ some v → total f (set vs i w) + f v ≡ total f vs + f w
  total_set [] i v w e = absurd (some-ne-none v (sym e))
  total_set (x ∷ xs) zero v w e = let same : f x ≡ f v = ap f (some-injective x v e) in omega arith
  total_set (x ∷ xs) (suc i) v w e = let r = total_set xs i v w e in omega arith

  pub total_snoc : (vs : List A) (w : A) → total f (vs ++ w ∷ []) ≡ total f vs + f w
  total_snoc [] w = omega arith
  total_snoc (x ∷ xs) w = let r = total_snoc xs w in omega arith

  pub total_has : (vs : List A) (i : ℕ) (v : A) → get_elem? vs i ≡ some v → f v ≤ total f vs
  total_has [] i v e = absurd (some-ne-none v (sym e))
  total_has (x ∷ xs) zero v e = let same : f x ≡ f v = ap f (some-injective x v e) in omega arith
  total_has (x ∷ xs) (suc i) v e = let r = total_has xs i v e in omega arith

  pub total_two : (vs : List A) (i j : ℕ) (v w : A) → i ≢ j → get_elem? vs i ≡ some v → get_elem? vs j ≡ some w → f v + f w ≤ total f vs
  total_two [] i j v w ne e d = absurd (some-ne-none v (sym e))
  total_two (x ∷ xs) zero zero v w ne e d = absurd (ne refl)
  total_two (x ∷ xs) zero (suc j) v w ne e d = let same : f x ≡ f v = ap f (some-injective x v e) in let r = total_has xs j w d in omega arith
  total_two (x ∷ xs) (suc i) zero v w ne e d = let same : f x ≡ f w = ap f (some-injective x w d) in let r = total_has xs i v e in omega arith
  total_two (x ∷ xs) (suc i) (suc j) v w ne e d = let r = total_two xs i j v w (λ is. ne (ap suc is)) e d in omega arith

  -- where each is at most another sum's, the sum is
  pub total_most : (g : A → ℕ) (vs : List A) → ((j : ℕ) (v : A) → get_elem? vs j ≡ some v → f v ≤ g v) → total f vs ≤ total g vs
  total_most g [] h = zero-le
  total_most g (x ∷ xs) h = let a = h 0 x refl in let r = total_most g xs (λ j v e. h (suc j) v e) in omega arith

  pub total_zero : (vs : List A) → ((j : ℕ) (v : A) → get_elem? vs j ≡ some v → f v ≡ 0) → total f vs ≡ 0
  total_zero [] h = refl
  total_zero (x ∷ xs) h = let a = h 0 x refl in let r = total_zero xs (λ j v e. h (suc j) v e) in omega arith

pub pos_sum : (p q : ℕ) → 0 < p + q → (0 < p) ⊎ (0 < q)
pos_sum zero q h = inr (omega arith)
pos_sum (suc p) q h = inl (omega arith)

pub occurrences-append : (x : ℕ) (xs ys : List ℕ) → occurrences x (xs ++ ys) ≡ occurrences x xs + occurrences x ys
occurrences-append x [] ys = omega arith
occurrences-append x (y ∷ xs) ys = let r = occurrences-append x xs ys in omega arith

pub one_hit : (n x : ℕ) → n ≡ x → one_if (eqb n x) ≡ 1
one_hit n x e = ap one_if (eq-eqb n x e)

pub one_miss : (n x : ℕ) → n ≢ x → one_if (eqb n x) ≡ 0
one_miss n x e = ap one_if (ne_eqb n x e)

-- of the k numbers from n on: none is below n, none is n + k or more, and each is there once
pub from_before : (x n k : ℕ) → x < n → occurrences x (range_with_len n k) ≡ 0
from_before x n zero h = refl
from_before x n (suc k) h = let r = from_before x (n + 1) k (omega arith) in let m = one_miss n x (λ e. omega arith) in omega arith

pub from_once : (x n k : ℕ) → occurrences x (range_with_len n k) ≤ 1
from_once x n zero = zero-le
from_once x n (suc k) = dite (ℕ_discrete n x)
    (λ e. let r = from_before x (n + 1) k (omega arith) in let m = one_hit n x e in omega arith)
    (λ e. let r = from_once x (n + 1) k in let m = one_miss n x e in omega arith)

pub from_within : (x n k : ℕ) → 0 < occurrences x (range_with_len n k) → x < n + k
from_within x n zero h = absurd (omega arith)
from_within x n (suc k) h = dite (ℕ_discrete n x)
    (λ e. omega arith)
    (λ e. let m = one_miss n x e in let r = from_within x (n + 1) k (omega arith) in omega arith)

pub from_has : (x n k : ℕ) → n ≤ x → x < n + k → occurrences x (range_with_len n k) ≡ 1
from_has x n zero low high = absurd (omega arith)
from_has x n (suc k) low high = dite (ℕ_discrete n x)
    (λ e. let r = from_before x (n + 1) k (omega arith) in let m = one_hit n x e in omega arith)
    (λ ne. let m = one_miss n x ne in let r = from_has x (n + 1) k (omega arith) (omega arith) in omega arith)
