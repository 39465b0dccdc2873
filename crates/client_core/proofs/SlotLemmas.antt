-- Slots that are changed one by one.
use Rattle.std.specs.Prelude.{is_none, position}
use Rattle.std.specs.List.{position_or_len}
use Rattle.std.proofs.lemmas.Bool.Decides.{nat_tests}
use Rattle.std.proofs.lemmas.List.Quantifiers.{position-Some}
use Rattle.client_core.specs.Wants.{WantView}
use Rattle.std.proofs.Common.{◌≡◌, ℕ, zero, suc, ◌+◌, ◌<◌, ◌≤◌, min, nat_lt, cond, Bool, true, false, List, [], ◌∷◌, ◌++◌, length, map, take, drop, set, get_or, Option, Some, None, refl, ap, arith, add-one}
use Rattle.pcp_base.specs.declared.addresses.Address.{Address}
use Rattle.pcp_options.specs.declared.options.Item.{Item}
use Rattle.pcp_options.specs.declared.options.Item.TheVariants.{ThirdParty, PreferFailure, Filter, PortSet}
use Rattle.pcp_options.specs.Asking.{third_of}
use Rattle.client_core.specs.Clients.{least, want_count_in}

-- a slot is written twice
pub set-again : {A : Type 0} (xs : List A) (i : ℕ) (a b : A) → set (set xs i a) i b ≡ set xs i b
set-again [] i a b = refl
set-again (x ∷ xs) zero a b = refl
set-again (x ∷ xs) (suc i) a b = ap (λ ys. x ∷ ys) (set-again xs i a b)

-- no slot is written
pub set-past : {A : Type 0} (xs : List A) (i : ℕ) (a : A) → length xs ≤ i → set xs i a ≡ xs
set-past [] i a h = refl
set-past (x ∷ xs) zero a h = absurd (omega arith)
set-past (x ∷ xs) (suc i) a h = ap (λ ys. x ∷ ys) (set-past xs i a (omega arith))

-- a slot is written as it was
pub set-same : {A : Type 0} (xs : List A) (i : ℕ) (a d : A) → a ≡ get_or xs i d → set xs i a ≡ xs
set-same [] i a d e = refl
set-same (x ∷ xs) zero a d e = ap (λ y. y ∷ xs) e
set-same (x ∷ xs) (suc i) a d e = ap (λ ys. x ∷ ys) (set-same xs i a d e)

-- past the end there is the default
pub get-past : {A : Type 0} (xs : List A) (i : ℕ) (d : A) → length xs ≤ i → get_or xs i d ≡ d
get-past [] i d h = refl
get-past (x ∷ xs) zero d h = absurd (omega arith)
get-past (x ∷ xs) (suc i) d h = get-past xs i d (omega arith)

-- the slots of which the first i are changed
abbrev pub changed : {A : Type 0} → (A → A) → ℕ → List A → List A
changed f i xs = map f (take i xs) ++ drop i xs

changed-suc : {A : Type 0} (f : A → A) (xs : List A) (i : ℕ) (d : A) → i < length xs → set (changed f i xs) i (f (get_or (changed f i xs) i d)) ≡ changed f (suc i) xs
changed-suc f [] i d h = absurd (omega arith)
changed-suc f (x ∷ xs) zero d h = refl
changed-suc f (x ∷ xs) (suc i) d h = ap (λ ys. f x ∷ ys) (changed-suc f xs i d (omega arith))

pub changed-more : {A : Type 0} (f : A → A) (xs : List A) (i : ℕ) (d : A) → i < length xs → set (changed f i xs) i (f (get_or (changed f i xs) i d)) ≡ changed f (i + 1) xs
changed-more f xs i d h = rw add-one (changed-suc f xs i d h)

pub changed-all : {A : Type 0} (f : A → A) (xs : List A) → changed f (length xs) xs ≡ map f xs
changed-all f [] = refl
changed-all f (x ∷ xs) = ap (λ ys. f x ∷ ys) (changed-all f xs)

pub length-changed : {A : Type 0} (f : A → A) (xs : List A) (i : ℕ) → length (changed f i xs) ≡ length xs
length-changed f [] zero = refl
length-changed f [] (suc i) = refl
length-changed f (x ∷ xs) zero = refl
length-changed f (x ∷ xs) (suc i) = ap suc (length-changed f xs i)

-- the least of times
pub least-assoc : (a b c : Option ℕ) → least (least a b) c ≡ least a (least b c)
least-assoc None b c = refl
least-assoc (Some a) None c = refl
least-assoc (Some a) (Some b) None = refl
least-assoc (Some a) (Some b) (Some c) =
    let e : min (min a b) c ≡ min a (min b c) = omega arith in
    ap Some e

pub least-none : (a : Option ℕ) → least a None ≡ a
least-none None = refl
least-none (Some a) = refl

-- the first THIRD_PARTY of items
pub third-passed : (item : Item) (items : List Item) → third_of (item ∷ []) ≡ None → third_of (item ∷ items) ≡ third_of items
third-passed (ThirdParty a) items h = absurd cc
third-passed PreferFailure items h = refl
third-passed (Filter f) items h = refl
third-passed (PortSet s) items h = refl

pub third-found : (item : Item) (items : List Item) (a : Address) → third_of (item ∷ []) ≡ Some a → third_of (item ∷ items) ≡ Some a
third-found (ThirdParty b) items a h = h
third-found PreferFailure items a h = absurd cc
third-found (Filter f) items a h = absurd cc
third-found (PortSet s) items a h = absurd cc

-- what is there doesn't depend on the default
pub get-any : {A : Type 0} (xs : List A) (i : ℕ) (d e : A) → i < length xs → get_or xs i d ≡ get_or xs i e
get-any [] i d e h = absurd (omega arith)
get-any (x ∷ xs) zero d e h = refl
get-any (x ∷ xs) (suc i) d e h = get-any xs i d e (omega arith)

-- how many slots are taken
count-most : (xs : List (Option WantView)) → want_count_in xs ≤ length xs
count-most [] = omega arith
count-most (None ∷ xs) = omega (arith, count-most xs)
count-most (Some w ∷ xs) = omega (arith, count-most xs)

prefix-few : (xs : List (Option WantView)) → position_or_len is_none xs ≤ want_count_in xs
prefix-few [] = omega arith
prefix-few (None ∷ xs) = omega arith
prefix-few (Some w ∷ xs) = omega (arith, prefix-few xs)

none-of : (b : Bool) (i : ℕ) → cond b (Some i) None ≡ None → b ≡ false
none-of true i h = absurd cc
none-of false i h = refl

past-all : (a b : ℕ) → nat_lt a b ≡ false → b ≤ a
past-all a b h = grind (arith, nat_tests)

pub full-count : (xs : List (Option WantView)) → position is_none xs ≡ None → want_count_in xs ≡ length xs
full-count xs h =
    let past = past-all (position_or_len is_none xs) (length xs) (none-of (nat_lt (position_or_len is_none xs) (length xs)) (position_or_len is_none xs) h) in
    omega (arith, past, prefix-few xs, count-most xs)

count-less : (xs : List (Option WantView)) (i : ℕ) → i < length xs → is_none (get_or xs i None) ≡ true → want_count_in xs < length xs
count-less [] i h e = absurd (omega arith)
count-less (None ∷ xs) zero h e = omega (arith, count-most xs)
count-less (Some w ∷ xs) zero h e = absurd cc
count-less (None ∷ xs) (suc i) h e = let less = count-less xs i (omega arith) e in omega (arith, less)
count-less (Some w ∷ xs) (suc i) h e = let less = count-less xs i (omega arith) e in omega (arith, less)

pub room-count : (xs : List (Option WantView)) (i : ℕ) → position is_none xs ≡ Some i → want_count_in xs < length xs
room-count xs i h =
    let there = position-Some is_none xs i None h in
    count-less xs i there.0 there.1
