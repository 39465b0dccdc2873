-- The place of the first of a list that passes a test, and external addresses by their place.
use Rattle.std.specs.List.{position_from}
use Rattle.std.proofs.Common.{◌≡◌, ℕ, zero, suc, ◌+◌, Bool, true, false, cond, List, [], ◌∷◌, slice_get, Some, None, refl, sym, ap, ◌∙◌, arith}
use Rattle.pcp_base.specs.declared.addresses.Address.{Address}
use Rattle.pcp_base.specs.declared.configs.External.{External}
use Rattle.pcp_base.specs.Tables.{same_address}

-- what is found at a place
pub record IsFound {X : Type 0} (p : X → Bool) (xs : List X) (n m : ℕ) : Type 0 where
  pub i : ℕ
  pub x : X
  pub place : m ≡ n + i
  pub item : slice_get xs i ≡ Some x
  pub passes : p x ≡ true

found-step : {X : Type 0} (p : X → Bool) (y : X) (xs : List X) (n m : ℕ) (b : Bool) → p y ≡ b → cond b (Some n) (position_from p (n + 1) xs) ≡ Some m
    → (position_from p (n + 1) xs ≡ Some m → IsFound p xs (n + 1) m) → IsFound p (y ∷ xs) n m
found-step p y xs n m true t e f = let same : n ≡ m = cc in record { i = 0; x = y; place = omega (arith, same); item = refl; passes = t }
found-step p y xs n m false t e f = let h = f e in record { i = suc h.i; x = h.x; place = omega (arith, h.place); item = h.item; passes = h.passes }

pub found : {X : Type 0} (p : X → Bool) (xs : List X) (n m : ℕ) → position_from p n xs ≡ Some m → IsFound p xs n m
found p [] n m e = let bad : None ≡ Some m = e in absurd (cc)
found p (y ∷ xs) n m e = found-step p y xs n m (p y) refl e (λ rest. found p xs (n + 1) m rest)

missed-step : {X : Type 0} (p : X → Bool) (y : X) (xs : List X) (n : ℕ) (b : Bool) → p y ≡ b → cond b (Some n) (position_from p (n + 1) xs) ≡ None
    → (position_from p (n + 1) xs ≡ None → (i : ℕ) (x : X) → slice_get xs i ≡ Some x → p x ≡ false) → (i : ℕ) (x : X) → slice_get (y ∷ xs) i ≡ Some x → p x ≡ false
missed-step p y xs n true t e f i x at = let bad : Some n ≡ None = e in absurd (cc)
missed-step p y xs n false t e f zero x at = let same : y ≡ x = cc in ap p (sym same) ∙ t
missed-step p y xs n false t e f (suc i) x at = f e i x at

pub missed : {X : Type 0} (p : X → Bool) (xs : List X) (n : ℕ) → position_from p n xs ≡ None → (i : ℕ) (x : X) → slice_get xs i ≡ Some x → p x ≡ false
missed p [] n e i x at = let bad : None ≡ Some x = at in absurd (cc)
missed p (y ∷ xs) n e i x at = missed-step p y xs n (p y) refl e (λ rest. missed p xs (n + 1) rest) i x at

-- whether an external has the address
abbrev pub has_address : Address → External → Bool
has_address address external = same_address external.address address
