-- Lists that begin with an item, as a slice pattern tells it.
use Rattle.std.proofs.Common.{◌≡◌, List, [], ◌∷◌, suc, ◌-◌, ◌≤◌, map, take, drop, length, get_or, refl, ap, ◌∙◌, arith}
use Rattle.std.proofs.lemmas.List.{take_all}

abbrev pub rest_of : {X : Type 0} → List X → List X
rest_of xs = take (length xs - 1) (drop 1 xs)

rest_is : {X : Type 0} (x : X) (xs : List X) → rest_of (x ∷ xs) ≡ xs
rest_is x xs =
    let n : length (x ∷ xs) - 1 ≡ length xs = omega arith in
    ap (λ k. take k xs) n ∙ take_all (length xs) xs (omega arith)

-- what the items of a list are seen as
pub shape_by : {A B : Type 0} (f : A → B) (xs : List A) (d : A) (t : B) → 1 ≤ length xs → t ≡ f (get_or xs 0 d) → map f xs ≡ t ∷ map f (rest_of xs)
shape_by f [] d t some is = absurd (let none : 1 ≤ 0 = some in omega (arith, none))
shape_by f (x ∷ xs) d t some is =
    let same : t ≡ f x = is in
    rw (rest_is x xs, same) refl

pub as_long : {A B : Type 0} (f : A → B) (xs : List A) → length (map f xs) ≡ length xs
as_long f [] = refl
as_long f (x ∷ xs) = ap suc (as_long f xs)
