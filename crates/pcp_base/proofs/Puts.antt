-- A lease is put in the place of the first one with its key, or at the end.
use Rattle.std.proofs.Common.{◌≡◌, ℕ, zero, suc, ◌+◌, Bool, true, false, cond, List, [], ◌∷◌, ◌++◌, Option, Some, None, Result, Ok, Err, OnOk, OnErr, refl, ap, sym, ◌∙◌, subst, arith}
use Rattle.std.specs.List.{AllByRecursion, position, position_from}
use Rattle.std.proofs.Math.ListN.{set}
use Rattle.std.proofs.lemmas.Iterator.Adapters.{position_from-zero}
use Rattle.pcp_base.specs.Tables.{put}

-- what a position says of the put, where it is counted from n on
abbrev Puts : {X : Type 0} → (X → Bool) → X → List X → ℕ → Option ℕ → Type 0
Puts test y xs n None = xs ++ y ∷ [] ≡ put test y xs
Puts test y xs n (Some i) = (j : ℕ) × (i ≡ n + j) × (set xs j y ≡ put test y xs)

later : {X : Type 0} (test : X → Bool) (y x : X) (xs : List X) (n : ℕ) (found : Option ℕ) → test x ≡ false → Puts test y xs (n + 1) found → Puts test y (x ∷ xs) n found
later test y x xs n None fails h = rw fails (ap (λ zs. x ∷ zs) h)
later test y x xs n (Some i) fails h =
    let place : i ≡ n + suc h.0 = omega (arith, h.1) in
    (suc h.0, place, rw fails (ap (λ zs. x ∷ zs) h.2))

here : {X : Type 0} (test : X → Bool) (y x : X) (xs : List X) (n : ℕ) → test x ≡ true → Puts test y (x ∷ xs) n (Some n)
here test y x xs n passes = (zero, omega arith, rw passes refl)

chosen : {X : Type 0} (test : X → Bool) (y x : X) (xs : List X) (n : ℕ) (found : Option ℕ) (b : Bool) → test x ≡ b → Puts test y xs (n + 1) found → Puts test y (x ∷ xs) n (cond b (Some n) found)
chosen test y x xs n found true e h = here test y x xs n e
chosen test y x xs n found false e h = later test y x xs n found e h

puts_from : {X : Type 0} (test : X → Bool) (y : X) (xs : List X) (n : ℕ) → Puts test y xs n (position_from test n xs)
puts_from test y [] n = refl
puts_from test y (x ∷ xs) n = chosen test y x xs n (position_from test (n + 1) xs) (test x) refl (puts_from test y xs (n + 1))

puts : {X : Type 0} (test : X → Bool) (y : X) (xs : List X) (found : Option ℕ) → found ≡ position test xs → Puts test y xs 0 found
puts test y xs found h = subst (Puts test y xs 0) (sym (h ∙ position_from-zero test xs)) (puts_from test y xs 0)

pub put_at : {X : Type 0} (test : X → Bool) (y : X) (xs : List X) (i : ℕ) → Some i ≡ position test xs → set xs i y ≡ put test y xs
put_at test y xs i h =
    let found = puts test y xs (Some i) h in
    let same : i ≡ found.0 = omega (arith, found.1) in
    ap (λ k. set xs k y) same ∙ found.2

pub put_behind : {X : Type 0} (test : X → Bool) (y : X) (xs : List X) → None ≡ position test xs → xs ++ y ∷ [] ≡ put test y xs
put_behind test y xs h = puts test y xs None h

-- what holds of all items and of the one that is put
pub put_All : {X : Type 0} (P : X → Type 0) (test : X → Bool) (y : X) (xs : List X) → P y → AllByRecursion P xs → AllByRecursion P (put test y xs)
put_All P test y [] h all = (h, tt)
put_All P test y (x ∷ xs) h all =
    elim (test x) as (λ b. AllByRecursion P (cond b (y ∷ xs) (x ∷ put test y xs)))
    [ true ↦ (h, all.1) | false ↦ (all.0, put_All P test y xs h all.1) ]

-- the items are those put, or as before
pub put_or_kept : {X T E : Type 0} (P : X → Type 0) (xs ys zs : List X) (r : Result T E) → OnOk r (zs ≡ ys) → OnErr r (zs ≡ xs) → AllByRecursion P xs → AllByRecursion P ys → AllByRecursion P zs
put_or_kept P xs ys zs (Ok v) ok err before after = subst (AllByRecursion P) (sym ok) after
put_or_kept P xs ys zs (Err e) ok err before after = subst (AllByRecursion P) (sym err) before
