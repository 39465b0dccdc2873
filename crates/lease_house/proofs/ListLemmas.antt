-- Lists by their places, and the greatest of a list.
use Rattle.std.specs.Prelude.{fold, max, slice_set}
use Rattle.std.specs.List.{AllByRecursion, slice_get}
use Rattle.std.proofs.Common.{◌≡◌, ◌∙◌, ℕ, zero, suc, ◌<◌, ◌≤◌, List, [], ◌∷◌, ◌⊎◌, length, map, get_or, drop, ◌+◌, Some, refl, ap, sym, subst, inl, inr, arith}
use Rattle.std.proofs.lemmas.List.{at_drop_all, at_drop_more}
use Rattle.lease_histories.specs.HouseHistories.{greatest}

-- ---- one item is changed

pub put-at : {X : Type 0} (xs : List X) (i : ℕ) (x y : X) → slice_get xs i ≡ Some x → slice_get (slice_set xs i y) i ≡ Some y
put-at [] i x y h = absurd cc
put-at (z ∷ zs) zero x y h = refl
put-at (z ∷ zs) (suc i) x y h = put-at zs i x y h

pub get-put : {X : Type 0} (xs : List X) (i j : ℕ) (x y z : X) → slice_get xs i ≡ Some x → slice_get (slice_set xs i y) j ≡ Some z →
    ((j ≡ i) × (y ≡ z)) ⊎ ((¬ (j ≡ i)) × (slice_get xs j ≡ Some z))
get-put [] i j x y z h k = absurd cc
get-put (w ∷ ws) zero zero x y z h k = inl (refl, cc)
get-put (w ∷ ws) zero (suc j) x y z h k = inr (λ e. omega (arith, e), k)
get-put (w ∷ ws) (suc i) zero x y z h k = inr (λ e. omega (arith, e), k)
get-put (w ∷ ws) (suc i) (suc j) x y z h k = elim (get-put ws i j x y z h k) [
  | inl p ↦ inl (ap (λ n. suc n) p.0, p.1)
  | inr p ↦ inr (λ e. p.0 (omega (arith, e)), p.1)
]

pub length-put : {X : Type 0} (xs : List X) (i : ℕ) (y : X) → length (slice_set xs i y) ≡ length xs
length-put [] i y = refl
length-put (x ∷ xs) zero y = refl
length-put (x ∷ xs) (suc i) y = ap (λ n. suc n) (length-put xs i y)

pub map-put : {X Y : Type 0} (f : X → Y) (xs : List X) (i : ℕ) (y : X) → map f (slice_set xs i y) ≡ slice_set (map f xs) i (f y)
map-put f [] i y = refl
map-put f (x ∷ xs) zero y = refl
map-put f (x ∷ xs) (suc i) y = ap (λ l. f x ∷ l) (map-put f xs i y)

-- by one that f can't tell from it
pub map-put-same : {X Y : Type 0} (f : X → Y) (xs : List X) (i : ℕ) (x y : X) → slice_get xs i ≡ Some x → f y ≡ f x → map f (slice_set xs i y) ≡ map f xs
map-put-same f [] i x y h same = absurd cc
map-put-same f (z ∷ zs) zero x y h same =
    let is : z ≡ x = cc in
    ap (λ w. w ∷ map f zs) (same ∙ ap f (sym is))
map-put-same f (z ∷ zs) (suc i) x y h same = ap (λ l. f z ∷ l) (map-put-same f zs i x y h same)

pub All-put : {X : Type 0} (P : X → Type 0) (xs : List X) (i : ℕ) (y : X) → AllByRecursion P xs → P y → AllByRecursion P (slice_set xs i y)
All-put P [] i y all has = tt
All-put P (x ∷ xs) zero y all has = (has, all.1)
All-put P (x ∷ xs) (suc i) y all has = (all.0, All-put P xs i y all.1 has)

-- ---- items

pub All-at : {X : Type 0} (P : X → Type 0) (xs : List X) (i : ℕ) (x : X) → AllByRecursion P xs → slice_get xs i ≡ Some x → P x
All-at P [] i x all h = absurd cc
All-at P (y ∷ xs) zero x all h = let same : y ≡ x = cc in subst P same all.0
All-at P (y ∷ xs) (suc i) x all h = All-at P xs i x all.1 h

pub within-get : {X : Type 0} (xs : List X) (i : ℕ) → i < length xs → (x : X) × (slice_get xs i ≡ Some x)
within-get [] i h = absurd (omega (arith, h))
within-get (y ∷ xs) zero h = (y, refl)
within-get (y ∷ xs) (suc i) h = within-get xs i (omega (arith, h))

pub get-within : {X : Type 0} (xs : List X) (i : ℕ) (x : X) → slice_get xs i ≡ Some x → i < length xs
get-within [] i x h = absurd cc
get-within (y ∷ xs) zero x h = omega arith
get-within (y ∷ xs) (suc i) x h = let k = get-within xs i x h in omega (arith, k)

pub get-map : {X Y : Type 0} (f : X → Y) (xs : List X) (i : ℕ) (x : X) → slice_get xs i ≡ Some x → slice_get (map f xs) i ≡ Some (f x)
get-map f [] i x h = absurd cc
get-map f (y ∷ xs) zero x h = let same : y ≡ x = cc in ap (λ z. Some (f z)) same
get-map f (y ∷ xs) (suc i) x h = get-map f xs i x h

pub get-map-back : {X Y : Type 0} (f : X → Y) (xs : List X) (i : ℕ) (y : Y) → slice_get (map f xs) i ≡ Some y → (x : X) × (slice_get xs i ≡ Some x) × (f x ≡ y)
get-map-back f [] i y h = absurd cc
get-map-back f (x ∷ xs) zero y h = (x, refl, cc)
get-map-back f (x ∷ xs) (suc i) y h = get-map-back f xs i y h

pub map-map : {X Y Z : Type 0} (f : Y → Z) (g : X → Y) (xs : List X) → map f (map g xs) ≡ map (λ x. f (g x)) xs
map-map f g [] = refl
map-map f g (x ∷ xs) = ap (λ l. f (g x) ∷ l) (map-map f g xs)

pub length-map : {X Y : Type 0} (f : X → Y) (xs : List X) → length (map f xs) ≡ length xs
length-map f [] = refl
length-map f (x ∷ xs) = ap (λ n. suc n) (length-map f xs)

-- ---- the greatest

pub greatest-from : (a : ℕ) (xs : List ℕ) → fold max a xs ≡ max a (fold max 0 xs)
greatest-from a [] = omega arith
greatest-from a (x ∷ xs) =
    let p = greatest-from (max a x) xs in
    let q = greatest-from (max 0 x) xs in
    let e : max 0 x ≡ x = omega arith in
    omega (arith, p, q, e)

pub greatest-has : {X : Type 0} (f : X → ℕ) (xs : List X) (i : ℕ) (x : X) → slice_get xs i ≡ Some x → f x ≤ greatest (map f xs)
greatest-has f [] i x h = absurd cc
greatest-has f (z ∷ zs) zero x h =
    let same : z ≡ x = cc in
    let at : f z ≡ f x = ap f same in
    let q = greatest-from (max 0 (f z)) (map f zs) in
    omega (arith, q, at)
greatest-has f (z ∷ zs) (suc i) x h =
    let r = greatest-has f zs i x h in
    let q = greatest-from (max 0 (f z)) (map f zs) in
    omega (arith, q, r)

-- ---- the greatest, in a loop

pub greatest-first : {X : Type 0} (f : X → ℕ) (xs : List X) (x : X) (n : ℕ) → slice_get xs 0 ≡ Some x → n ≡ f x → fold max n (map f xs) ≡ greatest (map f xs)
greatest-first f xs x n there is =
    let p = greatest-from n (map f xs) in
    let q = greatest-has f xs 0 x there in
    omega (arith, p, q, is)

pub greatest-turn : {X : Type 0} (f : X → ℕ) (xs : List X) (i : ℕ) (d : X) (base n : ℕ) → i < length xs → n ≡ max base (f (get_or xs i d)) →
    fold max n (map f (drop (i + 1) xs)) ≡ fold max base (map f (drop i xs))
greatest-turn {X} f xs i d base n within is =
    ap (λ (k : ℕ). fold max k (map f (drop (i + 1) xs))) is ∙ sym (at_drop_more (λ (l : List X). fold max base (map f l)) xs i d within)

pub greatest-end : {X : Type 0} (f : X → ℕ) (xs : List X) (i base : ℕ) → length xs ≤ i → fold max base (map f (drop i xs)) ≡ base
greatest-end {X} f xs i base past = at_drop_all (λ (l : List X). fold max base (map f l)) xs i past
