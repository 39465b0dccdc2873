-- A list by its first item and the rest, as a slice pattern tells them.
use Rattle.std.proofs.Common.{◌≡◌, ◌-◌, ◌≤◌, Bool, true, false, List, [], ◌∷◌, length, take, drop, refl, ap, ◌∙◌, subst, arith}
use Rattle.std.specs.Bool.{OnTrue}
use Rattle.std.specs.List.{AllByRecursion}
use Rattle.std.proofs.Math.ListN.{get_or}
use Rattle.pcp_base.specs.Tables.{EachTwo}

abbrev rest_of : {X : Type 0} → List X → List X
rest_of xs = take (length xs - 1) (drop 1 xs)

whole : {X : Type 0} (xs : List X) → take (length xs) xs ≡ xs
whole [] = refl
whole (x ∷ xs) = ap (λ ys. x ∷ ys) (whole xs)

rest_is : {X : Type 0} (x : X) (xs : List X) → rest_of (x ∷ xs) ≡ xs
rest_is x xs =
    let n : length (x ∷ xs) - 1 ≡ length xs = omega arith in
    ap (λ k. take k xs) n ∙ whole xs

pub on-true : {A B : Type 0} (b : Bool) → (A → B) → OnTrue b A → OnTrue b B
on-true true f h = f h
on-true false f h = tt

pub all-from_first : {X : Type 0} (P : X → Type 0) (xs : List X) (x : X) → 1 ≤ length xs → x ≡ get_or xs 0 x → P x → AllByRecursion P (rest_of xs) → AllByRecursion P xs
all-from_first P [] x some is h rest = absurd (let none : 1 ≤ 0 = some in omega (arith, none))
all-from_first P (y ∷ ys) x some is h rest = let same : x ≡ y = is in (subst P same h, subst (AllByRecursion P) (rest_is y ys) rest)

pub each-from_first : {X : Type 0} (R : X → X → Type 0) (xs : List X) (x : X) → 1 ≤ length xs → x ≡ get_or xs 0 x → AllByRecursion (R x) (rest_of xs) → EachTwo R (rest_of xs) → EachTwo R xs
each-from_first R [] x some is h rest = absurd (let none : 1 ≤ 0 = some in omega (arith, none))
each-from_first R (y ∷ ys) x some is h rest =
    let same : x ≡ y = is in
    (subst (λ z. AllByRecursion (R z) ys) same (subst (AllByRecursion (R x)) (rest_is y ys) h), subst (EachTwo R) (rest_is y ys) rest)
