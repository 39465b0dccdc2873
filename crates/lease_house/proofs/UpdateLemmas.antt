-- Lists of updates.
use Rattle.std.proofs.Common.{◌≡◌, ◌<◌, ◌+◌, ℕ, suc, zero, Bool, true, false, List, [], ◌∷◌, ◌++◌, get_or, length, map, take, nat_lt, refl, subst, sym, ap, ◌∙◌, arith, append_assoc}
use Rattle.std.specs.Prelude.{cond, flat_map}
use Rattle.std.proofs.lemmas.Bool.{ltb-true}
use Rattle.std.proofs.lemmas.Grind.{flat_map-append}
use Rattle.std.proofs.lemmas.List.{append-nil, length-map, map-append, take_more}
use Rattle.std.specs.List.{AllByRecursion, filter}
use Rattle.pcp_base.specs.declared.configs.External.{External}
use Rattle.lease_store.specs.LeaseTerms.{terms_of}
use Rattle.shard_book.specs.Books.{BookView}
use Rattle.lease_histories.specs.HouseHistories.{greatest}
use Rattle.lease_house.specs.SoloHouses.{HouseView, IsHouse, plain_shard}
use Rattle.lease_house.specs.SoloOpenings.{book_updates, updates_of}

pub all_get : {X : Type 0} (P : X → Type 0) (xs : List X) (i : ℕ) (x : X) → AllByRecursion P xs → i < length xs → x ≡ get_or xs i x → P x
all_get P [] i x all within is = absurd (omega arith)
all_get P (y ∷ ys) zero x all within is = subst P (sym is) all.0
all_get P (y ∷ ys) (suc i) x all within is = all_get P ys i x all.1 (omega arith) is

-- one value more
pub mapped_on : {X Y : Type 0} (f : X → Y) (xs : List X) (i : ℕ) (x : X) (before old new : List Y) (y : Y) → i < length xs → x ≡ get_or xs i x
    → old ≡ before ++ map f (take i xs) → y ≡ f x → new ≡ old ++ y ∷ [] → new ≡ before ++ map f (take (i + 1) xs)
mapped_on f xs i x before old new y within is so_far y_is added =
    let more : take (i + 1) xs ≡ take i xs ++ x ∷ [] = take_more xs i x within ∙ ap (λ (z : _). take i xs ++ z ∷ []) (sym is) in
    added ∙ ap (λ (ys : List _). ys ++ y ∷ []) so_far ∙ append_assoc before (map f (take i xs)) (y ∷ []) ∙ ap (λ (z : _). before ++ (map f (take i xs) ++ z ∷ [])) y_is
    ∙ ap (λ (ys : List _). before ++ ys) (sym (map-append f (take i xs) (x ∷ []))) ∙ ap (λ (zs : List _). before ++ map f zs) (sym more)

pub flat_on : {X Y : Type 0} (f : X → List Y) (xs : List X) (i : ℕ) (x : X) (old new : List Y) → i < length xs → x ≡ get_or xs i x
    → old ≡ flat_map f (take i xs) → new ≡ old ++ f x → new ≡ flat_map f (take (i + 1) xs)
flat_on f xs i x old new within is so_far added =
    let more : take (i + 1) xs ≡ take i xs ++ x ∷ [] = take_more xs i x within ∙ ap (λ (z : _). take i xs ++ z ∷ []) (sym is) in
    added ∙ ap (λ (ys : List _). ys ++ f x) so_far ∙ ap (λ (ys : List _). flat_map f (take i xs) ++ ys) (sym (append-nil (f x)))
    ∙ sym (flat_map-append f (take i xs) (x ∷ [])) ∙ ap (λ (zs : List _). flat_map f zs) (sym more)

-- ---- live leases

passing_on : {X : Type 0} (P : X → Type 0) (p : X → Bool) → ((x : X) → p x ≡ true → P x) → (x : X) (rest : List X) (b : Bool) → p x ≡ b → AllByRecursion P rest → AllByRecursion P (cond b (x ∷ rest) rest)
passing_on P p gives x rest true passes all = (gives x passes, all)
passing_on P p gives x rest false passes all = all

all-passing : {X : Type 0} (P : X → Type 0) (p : X → Bool) → ((x : X) → p x ≡ true → P x) → (xs : List X) → AllByRecursion P (filter p xs)
all-passing P p gives [] = tt
all-passing P p gives (x ∷ xs) = passing_on P p gives x (filter p xs) (p x) refl (all-passing P p gives xs)

pub left_live : {X : Type 0} (expiry : X → ℕ) (m : ℕ) (xs ls now : List X) → ls ≡ filter (λ l. nat_lt m (expiry l)) xs → now ≡ ls → AllByRecursion (λ l. m < expiry l) now
left_live expiry m xs ls now ls_are now_is =
    subst (AllByRecursion (λ l. m < expiry l)) (sym (now_is ∙ ls_are)) (all-passing (λ l. m < expiry l) (λ l. nat_lt m (expiry l)) (λ l passes. ltb-true m (expiry l) passes) xs)

-- ---- the greatest base

plain-bases : {D : Type 0} (books : List (BookView D)) → map (λ s. s.state.base) (map plain_shard books) ≡ map (λ b. b.state.base) books
plain-bases [] = refl
plain-bases (b ∷ bs) = ap (λ (ns : List ℕ). b.state.base ∷ ns) (plain-bases bs)

pub told_updates : {D : Type 0} (books : List (BookView D)) (base : ℕ) → base ≡ greatest (map (λ b. b.state.base) books)
    → flat_map (book_updates base) books ≡ flat_map (book_updates (greatest (map (λ s. s.state.base) (map plain_shard books)))) books
told_updates books base is = ap (λ (n : ℕ). flat_map (book_updates n) books) (is ∙ ap greatest (sym (plain-bases books)))

pub told_by_house : {D : Type 0} (house : HouseView D) (first second : List (BookView D)) (base : ℕ) → first ≡ house.books → second ≡ house.books → base ≡ greatest (map (λ b. b.state.base) first)
    → flat_map (book_updates base) second ≡ updates_of house
told_by_house house first second base first_is second_is base_is =
    ap (λ (bs : List (BookView _)). flat_map (book_updates base) bs) second_is
    ∙ told_updates house.books base (base_is ∙ ap (λ (bs : List (BookView _)). greatest (map (λ b. b.state.base) bs)) first_is)

-- a house has a book
pub some_books : {D : Type 0} (tells : Type 0) (seen : D → List ℕ) (may_leave : D → List ℕ → Type 0) (house : HouseView D) → IsHouse tells seen may_leave house → 0 < length house.books
some_books tells seen may_leave house stands =
    omega (arith, ap length stands.terms, length-map house.books (λ (b : BookView _). b.terms), length-map house.config.externals (λ (x : External). terms_of x house.config), stands.config.external_count.0)
