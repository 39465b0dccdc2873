-- Members of a list, by recursion on it, and what holds of each two of them.
use Rattle.std.specs.Prelude.{◌≡◌, refl, ℕ, ◌+◌, ◌<◌, ◌≤◌, ◌⊎◌, zero, suc, Bool, true, false, List, [], ◌∷◌, ◌++◌, map, flat_map, filter, find, Contains, Some, None, IsSome}
use Rattle.std.specs.List.{AllByRecursion, AllZip, list_any, range_with_len}
use Rattle.std.proofs.Common.{inl, inr, ap, arith}
use Rattle.std.proofs.lemmas.Bool.{cond_both, or_parts, or_from, or_cases, or_left, or_right, cases_lt}
use Rattle.pcp_base.specs.Tables.{EachTwo}

-- x is one of the list
abbrev pub IsIn : {X : Type 0} → X → List X → Type 0
IsIn x [] = ⊥
IsIn x (y ∷ ys) = (y ≡ x) ⊎ IsIn x ys

pub IsIn-from_Contains : {X : Type 0} (xs : List X) (x : X) → Contains xs x → IsIn x xs
IsIn-from_Contains [] x (k, low, same) = absurd (omega arith)
IsIn-from_Contains (y ∷ ys) x (zero, low, same) = inl same
IsIn-from_Contains (y ∷ ys) x (suc k, low, same) = inr (IsIn-from_Contains ys x (k, omega arith, same))

pub Contains-from_IsIn : {X : Type 0} (xs : List X) (x : X) → IsIn x xs → Contains xs x
Contains-from_IsIn [] x h = absurd h
Contains-from_IsIn (y ∷ ys) x (inl e) = (0, omega arith, e)
Contains-from_IsIn (y ∷ ys) x (inr h) = let c = Contains-from_IsIn ys x h in (suc c.0, omega arith, c.2)

pub All-IsIn : {X : Type 0} (P : X → Type 0) (xs : List X) (x : X) → AllByRecursion P xs → IsIn x xs → P x
All-IsIn P [] x a h = absurd h
All-IsIn P (y ∷ ys) x a (inl e) = rw e at a.0
All-IsIn P (y ∷ ys) x a (inr h) = All-IsIn P ys x a.1 h

pub All-from_IsIn : {X : Type 0} (P : X → Type 0) (xs : List X) → ((x : X) → IsIn x xs → P x) → AllByRecursion P xs
All-from_IsIn P [] f = tt
All-from_IsIn P (y ∷ ys) f = (f y (inl refl), All-from_IsIn P ys (λ x h. f x (inr h)))

pub All-filter : {X : Type 0} (P : X → Type 0) (p : X → Bool) (xs : List X) → AllByRecursion P xs → AllByRecursion P (filter p xs)
All-filter P p [] a = tt
All-filter P p (x ∷ xs) a =
    cond_both (p x) (x ∷ filter p xs) (filter p xs) (λ ys. AllByRecursion P ys) (λ _. (a.0, All-filter P p xs a.1)) (λ _. All-filter P p xs a.1)

pub All-weaker : {X : Type 0} (P Q : X → Type 0) → ((x : X) → P x → Q x) → (xs : List X) → AllByRecursion P xs → AllByRecursion Q xs
All-weaker P Q f [] a = tt
All-weaker P Q f (x ∷ xs) a = (f x a.0, All-weaker P Q f xs a.1)

-- what a filter keeps passes its test
pub All-kept : {X : Type 0} (p : X → Bool) (xs : List X) → AllByRecursion (λ x. p x ≡ true) (filter p xs)
All-kept p [] = tt
All-kept p (x ∷ xs) = cond_both (p x) (x ∷ filter p xs) (filter p xs) (λ ys. AllByRecursion (λ x. p x ≡ true) ys) (λ e. (e, All-kept p xs)) (λ _. All-kept p xs)

pub All-both : {X : Type 0} (P Q : X → Type 0) (xs : List X) → AllByRecursion P xs → AllByRecursion Q xs → AllByRecursion (λ x. P x × Q x) xs
All-both P Q [] a b = tt
All-both P Q (x ∷ xs) a b = ((a.0, b.0), All-both P Q xs a.1 b.1)

pub All-append : {X : Type 0} (P : X → Type 0) (xs ys : List X) → AllByRecursion P xs → AllByRecursion P ys → AllByRecursion P (xs ++ ys)
All-append P [] ys a b = b
All-append P (x ∷ xs) ys a b = (a.0, All-append P xs ys a.1 b)

pub All-push : {X : Type 0} (P : X → Type 0) (xs : List X) (x : X) → AllByRecursion P xs → P x → AllByRecursion P (xs ++ x ∷ [])
All-push P [] x a h = (h, tt)
All-push P (y ∷ ys) x a h = (a.0, All-push P ys x a.1 h)

pub EachTwo-filter : {X : Type 0} (R : X → X → Type 0) (p : X → Bool) (xs : List X) → EachTwo R xs → EachTwo R (filter p xs)
EachTwo-filter R p [] a = tt
EachTwo-filter R p (x ∷ xs) a =
    cond_both (p x) (x ∷ filter p xs) (filter p xs) (λ ys. EachTwo R ys)
    (λ _. (All-filter (R x) p xs a.0, EachTwo-filter R p xs a.1)) (λ _. EachTwo-filter R p xs a.1)

pub EachTwo-push : {X : Type 0} (R : X → X → Type 0) (xs : List X) (x : X) → EachTwo R xs → AllByRecursion (λ y. R y x) xs → EachTwo R (xs ++ x ∷ [])
EachTwo-push R [] x a h = (tt, tt)
EachTwo-push R (y ∷ ys) x a h = (All-push (R y) ys x a.0 h.0, EachTwo-push R ys x a.1 h.1)

pub IsIn-filter : {X : Type 0} (p : X → Bool) (xs : List X) (x : X) → IsIn x (filter p xs) → IsIn x xs × (p x ≡ true)
IsIn-filter p [] x h = absurd h
IsIn-filter {X = X} p (y ∷ ys) x h =
    cond_both (p y) (y ∷ filter p ys) (filter p ys) (λ zs. IsIn x zs → IsIn x (y ∷ ys) × (p x ≡ true))
    (λ e k. elim k [
      | inl same ↦ (inl same, rw same at e)
      | inr rest ↦ (let r = IsIn-filter p ys x rest in (inr r.0, r.1))
    ])
    (λ _ k. let r = IsIn-filter p ys x k in (inr r.0, r.1)) h

pub filter-IsIn : {X : Type 0} (p : X → Bool) (xs : List X) (x : X) → IsIn x xs → p x ≡ true → IsIn x (filter p xs)
filter-IsIn p [] x h e = absurd h
filter-IsIn p (y ∷ ys) x (inl same) e =
    cond_both (p y) (y ∷ filter p ys) (filter p ys) (λ zs. IsIn x zs) (λ _. inl same)
    (λ no. absurd (let both : p y ≡ true = rw (← same) at e in cc))
filter-IsIn p (y ∷ ys) x (inr h) e =
    cond_both (p y) (y ∷ filter p ys) (filter p ys) (λ zs. IsIn x zs) (λ _. inr (filter-IsIn p ys x h e)) (λ _. filter-IsIn p ys x h e)

pub IsIn-append : {X : Type 0} (xs ys : List X) (x : X) → IsIn x (xs ++ ys) → IsIn x xs ⊎ IsIn x ys
IsIn-append [] ys x h = inr h
IsIn-append (y ∷ xs) ys x (inl e) = inl (inl e)
IsIn-append (y ∷ xs) ys x (inr h) = elim (IsIn-append xs ys x h) [ inl a ↦ inl (inr a) | inr b ↦ inr b ]

pub IsIn-left : {X : Type 0} (xs ys : List X) (x : X) → IsIn x xs → IsIn x (xs ++ ys)
IsIn-left [] ys x h = absurd h
IsIn-left (y ∷ xs) ys x (inl e) = inl e
IsIn-left (y ∷ xs) ys x (inr h) = inr (IsIn-left xs ys x h)

pub IsIn-right : {X : Type 0} (xs ys : List X) (x : X) → IsIn x ys → IsIn x (xs ++ ys)
IsIn-right [] ys x h = h
IsIn-right (y ∷ xs) ys x h = inr (IsIn-right xs ys x h)

pub IsIn-map : {X Y : Type 0} (f : X → Y) (xs : List X) (y : Y) → IsIn y (map f xs) → (x : X) × IsIn x xs × (f x ≡ y)
IsIn-map f [] y h = absurd h
IsIn-map f (x ∷ xs) y (inl e) = (x, inl refl, e)
IsIn-map f (x ∷ xs) y (inr h) = let r = IsIn-map f xs y h in (r.0, inr r.1, r.2)

pub map-IsIn : {X Y : Type 0} (f : X → Y) (xs : List X) (x : X) → IsIn x xs → IsIn (f x) (map f xs)
map-IsIn f [] x h = absurd h
map-IsIn f (z ∷ xs) x (inl e) = inl (ap f e)
map-IsIn f (z ∷ xs) x (inr h) = inr (map-IsIn f xs x h)

pub IsIn-flat_map : {X Y : Type 0} (f : X → List Y) (xs : List X) (y : Y) → IsIn y (flat_map f xs) → (x : X) × IsIn x xs × IsIn y (f x)
IsIn-flat_map f [] y h = absurd h
IsIn-flat_map f (x ∷ xs) y h =
    elim (IsIn-append (f x) (flat_map f xs) y h) [
      | inl a ↦ (x, inl refl, a)
      | inr b ↦ (let r = IsIn-flat_map f xs y b in (r.0, inr r.1, r.2))
    ]

pub flat_map-IsIn : {X Y : Type 0} (f : X → List Y) (xs : List X) (x : X) (y : Y) → IsIn x xs → IsIn y (f x) → IsIn y (flat_map f xs)
flat_map-IsIn f [] x y h k = absurd h
flat_map-IsIn f (z ∷ xs) x y (inl e) k = IsIn-left (f z) (flat_map f xs) y (rw e k)
flat_map-IsIn f (z ∷ xs) x y (inr h) k = IsIn-right (f z) (flat_map f xs) y (flat_map-IsIn f xs x y h k)

-- what a look-up gives is in the list and passes its test
pub find-some : {X : Type 0} (p : X → Bool) (xs : List X) (x : X) → find p xs ≡ Some x → IsIn x xs × (p x ≡ true)
find-some p [] x h = cc
find-some p (y ∷ ys) x h =
    cond_both (p y) (Some y) (find p ys) (λ o. o ≡ Some x → IsIn x (y ∷ ys) × (p x ≡ true))
    (λ e k. let same : y ≡ x = cc in (inl same, rw same at e))
    (λ _ k. let r = find-some p ys x k in (inr r.0, r.1)) h

-- where it gives none, none passes
pub find-none : {X : Type 0} (p : X → Bool) (xs : List X) → find p xs ≡ None → AllByRecursion (λ x. p x ≡ false) xs
find-none p [] h = tt
find-none p (y ∷ ys) h =
    cond_both (p y) (Some y) (find p ys) (λ o. o ≡ None → AllByRecursion (λ x. p x ≡ false) (y ∷ ys))
    (λ e k. absurd cc) (λ e k. (e, find-none p ys k)) h

-- a filter that all pass keeps all
pub filter-all : {X : Type 0} (p : X → Bool) (xs : List X) → AllByRecursion (λ x. p x ≡ true) xs → filter p xs ≡ xs
filter-all p [] h = refl
filter-all p (x ∷ xs) h = rw h.0 (ap (λ ys. x ∷ ys) (filter-all p xs h.1))

pub none-any : {X : Type 0} (p : X → Bool) (xs : List X) → AllByRecursion (λ x. p x ≡ false) xs → list_any p xs ≡ false
none-any p [] h = refl
none-any p (x ∷ xs) h = or_from (p x) (list_any p xs) h.0 (none-any p xs h.1)

pub any-some : {X : Type 0} (p : X → Bool) (xs : List X) → list_any p xs ≡ true → (x : X) × IsIn x xs × (p x ≡ true)
any-some p [] h = absurd cc
any-some p (x ∷ xs) h =
    elim (or_cases (p x) (list_any p xs) h) [
      | inl a ↦ (x, inl refl, a)
      | inr b ↦ (let r = any-some p xs b in (r.0, inr r.1, r.2))
    ]

pub some-any : {X : Type 0} (p : X → Bool) (xs : List X) (x : X) → IsIn x xs → p x ≡ true → list_any p xs ≡ true
some-any p [] x h e = absurd h
some-any p (y ∷ ys) x (inl same) e = or_left (p y) (list_any p ys) (rw (← same) at e)
some-any p (y ∷ ys) x (inr h) e = or_right (p y) (list_any p ys) (some-any p ys x h e)

pub any-none : {X : Type 0} (p : X → Bool) (xs : List X) → list_any p xs ≡ false → AllByRecursion (λ x. p x ≡ false) xs
any-none p [] h = tt
any-none p (y ∷ ys) h = let both = or_parts (p y) (list_any p ys) h in (both.0, any-none p ys both.1)

-- what a range of numbers has
pub range-IsIn : (a n i : ℕ) → IsIn i (range_with_len a n) → (a ≤ i) × (i < a + n)
range-IsIn a zero i h = absurd h
range-IsIn a (suc n) i (inl e) = (omega arith, omega arith)
range-IsIn a (suc n) i (inr h) = let r = range-IsIn (a + 1) n i h in (omega arith, omega arith)

pub IsIn-range : (a n y : ℕ) → a ≤ y → y < a + n → IsIn y (range_with_len a n)
IsIn-range a zero y low below = absurd (omega arith)
IsIn-range a (suc n) y low below =
    elim (cases_lt a y) [
      | inl after ↦ inr (IsIn-range (a + 1) n y (omega arith) (omega arith))
      | inr here ↦ inl (omega arith)
    ]

pub AllZip-refl : {X : Type 0} (R : X → X → Type 0) → ((x : X) → R x x) → (xs : List X) → AllZip R xs xs
AllZip-refl R r [] = tt
AllZip-refl R r (x ∷ xs) = (r x, AllZip-refl R r xs)

pub AllZip-all : {X : Type 0} (R : X → X → Type 0) (P Q : X → Type 0) → ((x y : X) → R x y → P x → Q y) → (xs ys : List X) → AllZip R xs ys → AllByRecursion P xs → AllByRecursion Q ys
AllZip-all R P Q f [] [] z a = tt
AllZip-all R P Q f [] (y ∷ ys) z a = absurd z
AllZip-all R P Q f (x ∷ xs) [] z a = absurd z
AllZip-all R P Q f (x ∷ xs) (y ∷ ys) z a = (f x y z.0 a.0, AllZip-all R P Q f xs ys z.1 a.1)

pub AllZip-each_two : {X : Type 0} (R S : X → X → Type 0) → ((x y u v : X) → R x y → R u v → S x u → S y v) → (xs ys : List X) → AllZip R xs ys → EachTwo S xs → EachTwo S ys
AllZip-each_two R S f [] [] z a = tt
AllZip-each_two R S f [] (y ∷ ys) z a = absurd z
AllZip-each_two R S f (x ∷ xs) [] z a = absurd z
AllZip-each_two R S f (x ∷ xs) (y ∷ ys) z a =
    (AllZip-all R (S x) (S y) (λ u v r s. f x y u v z.0 r s) xs ys z.1 a.0, AllZip-each_two R S f xs ys z.1 a.1)

pub AllZip-flat_map : {X Y : Type 0} (R : X → X → Type 0) (f : X → List Y) → ((x y : X) → R x y → f x ≡ f y) → (xs ys : List X) → AllZip R xs ys → flat_map f xs ≡ flat_map f ys
AllZip-flat_map R f same [] [] z = refl
AllZip-flat_map R f same [] (y ∷ ys) z = absurd z
AllZip-flat_map R f same (x ∷ xs) [] z = absurd z
AllZip-flat_map R f same (x ∷ xs) (y ∷ ys) z =
    let here : f x ≡ f y = same x y z.0 in let rest : flat_map f xs ≡ flat_map f ys = AllZip-flat_map R f same xs ys z.1 in cc

pub AllZip-IsIn : {X : Type 0} (R : X → X → Type 0) (xs ys : List X) → AllZip R xs ys → (y : X) → IsIn y ys → (x : X) × IsIn x xs × R x y
AllZip-IsIn R [] [] z y h = absurd h
AllZip-IsIn R [] (v ∷ ys) z y h = absurd z
AllZip-IsIn R (x ∷ xs) [] z y h = absurd z
AllZip-IsIn R (x ∷ xs) (v ∷ ys) z y (inl e) = (x, inl refl, rw e at z.0)
AllZip-IsIn R (x ∷ xs) (v ∷ ys) z y (inr h) = let r = AllZip-IsIn R xs ys z.1 y h in (r.0, inr r.1, r.2)

-- a look-up gives some where one passes
pub find-IsIn : {X : Type 0} (p : X → Bool) (xs : List X) (x : X) → IsIn x xs → p x ≡ true → IsSome (find p xs)
find-IsIn p [] x h e = absurd h
find-IsIn p (y ∷ ys) x (inl same) e =
    cond_both (p y) (Some y) (find p ys) (λ o. IsSome o) (λ _. refl) (λ no. absurd (let yes : p y ≡ true = rw (← same) at e in cc))
find-IsIn p (y ∷ ys) x (inr h) e = cond_both (p y) (Some y) (find p ys) (λ o. IsSome o) (λ _. refl) (λ _. find-IsIn p ys x h e)
