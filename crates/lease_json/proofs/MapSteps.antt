-- A list of values that is made one by one.
use Rattle.std.proofs.Common.{◌≡◌, ℕ, ◌+◌, ◌<◌, List, [], ◌∷◌, ◌++◌, length, map, take, get_or, sym, ap, ◌∙◌}
use Rattle.std.proofs.lemmas.List.{take_more, map-append}

pub map_step : {A B C : Type 0} (f : A → C) (g : B → C) (xs : List A) (ys zs : List B) (i : ℕ) (x : A) (y : B) → map g ys ≡ map f (take i xs) → i < length xs
    → x ≡ get_or xs i x → g y ≡ f x → zs ≡ ys ++ y ∷ [] → map g zs ≡ map f (take (i + 1) xs)
map_step f g xs ys zs i x y so_far within is same pushed =
    let right : map f (take (i + 1) xs) ≡ map f (take i xs) ++ f x ∷ [] =
    ap (map f) (take_more xs i x within) ∙ map-append f (take i xs) (get_or xs i x ∷ []) ∙ ap (λ z. map f (take i xs) ++ f z ∷ []) (sym is) in
    let left : map g zs ≡ map g ys ++ g y ∷ [] = ap (map g) pushed ∙ map-append g ys (y ∷ []) in
    left ∙ ap (λ front. front ++ g y ∷ []) so_far ∙ ap (λ z. map f (take i xs) ++ z ∷ []) same ∙ sym right
