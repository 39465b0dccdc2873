-- What was there before a text stays in front.
use Rattle.std.proofs.Common.{◌≡◌, ℕ, ◌≤◌, List, ◌++◌, length, take, refl, ap, sym, ◌∙◌, arith}
use Rattle.std.proofs.lemmas.List.{length-take, take-take, take_at}

pub front_of : (xs ys zs : List ℕ) → zs ≡ xs ++ ys → take (length xs) zs ≡ xs
front_of xs ys zs same = ap (λ (os : List ℕ). take (length xs) os) same ∙ take_at xs ys (length xs) refl

pub still_in_front : (xs ys zs : List ℕ) → take (length xs) ys ≡ xs → take (length ys) zs ≡ ys → take (length xs) zs ≡ xs
still_in_front xs ys zs h k =
    let short : length xs ≤ length ys = omega (arith, length-take (length xs) ys, ap (λ (os : List ℕ). length os) h) in
    sym (take-take (length xs) (length ys) zs short) ∙ ap (λ (os : List ℕ). take (length xs) os) k ∙ h
