-- What holds of the options of a success without THIRD_PARTY.
use Rattle.std.specs.Prelude.{nat_le, not, filter, count_by}
use Rattle.std.proofs.Common.{◌≡◌, ◌≤◌, ◌&&◌, Bool, true, false, cond, List, [], ◌∷◌, length, None, refl, arith}
use Rattle.std.proofs.lemmas.Bool.{and_parts, le-leb, leb-true}
use Rattle.std.proofs.lemmas.List.Sums.{length-filter}
use Rattle.pcp_options.specs.declared.options.Item.{Item}
use Rattle.pcp_options.specs.declared.options.Item.TheVariants.{ThirdParty, PreferFailure, Filter, PortSet}
use Rattle.pcp_options.specs.Asking.{third_of}
use Rattle.pcp_options.specs.ReadResponses.{are_single, is_preference, is_set, is_third}

pub third-left : (items : List Item) → third_of (filter (λ item. not (is_third item)) items) ≡ None
third-left [] = refl
third-left (ThirdParty a ∷ items) = third-left items
third-left (PreferFailure ∷ items) = third-left items
third-left (Filter f ∷ items) = third-left items
third-left (PortSet set ∷ items) = third-left items

longer : {X : Type 0} (b : Bool) (x : X) (xs ys : List X) → length xs ≤ length ys
    → length (cond b (x ∷ xs) xs) ≤ length (cond b (x ∷ ys) ys)
longer true x xs ys h = omega (arith, h)
longer false x xs ys h = h

one-more : {X : Type 0} (b : Bool) (x : X) (xs ys : List X) → length xs ≤ length ys
    → length xs ≤ length (cond b (x ∷ ys) ys)
one-more true x xs ys h = omega (arith, h)
one-more false x xs ys h = h

filtered : {X : Type 0} (p : X → Bool) (b : Bool) (x : X) (xs ys : List X)
    → length (filter p xs) ≤ length ys
    → length (filter p (cond b (x ∷ xs) xs)) ≤ length (cond (p x) (x ∷ ys) ys)
filtered p true x xs ys h = longer (p x) x (filter p xs) ys h
filtered p false x xs ys h = one-more (p x) x (filter p xs) ys h

fewer : {X : Type 0} (p q : X → Bool) (xs : List X)
    → length (filter p (filter q xs)) ≤ length (filter p xs)
fewer p q [] = omega arith
fewer p q (x ∷ xs) = filtered p (q x) x (filter q xs) (filter p xs) (fewer p q xs)

once : (p q : Item → Bool) (items : List Item) → nat_le (count_by p items) 1 ≡ true
    → nat_le (count_by p (filter q items)) 1 ≡ true
once p q items h =
    let le = leb-true (count_by p items) 1 h in
    let few = fewer p q items in
    let a = length-filter p items in
    let b = length-filter p (filter q items) in
    le-leb (count_by p (filter q items)) 1 (omega (arith, le, few, a, b))

three : (a b c : Bool) → a ≡ true → b ≡ true → c ≡ true → (a && b && c) ≡ true
three true true true x y z = refl
three false b c x y z = absurd cc
three true false c x y z = absurd cc
three true true false x y z = absurd cc

pub single-left : (q : Item → Bool) (items : List Item) → are_single items ≡ true
    → are_single (filter q items) ≡ true
single-left q items h =
    let p = and_parts _ (nat_le (count_by is_set items) 1) h in
    let o = and_parts (nat_le (count_by is_third items) 1) (nat_le (count_by is_preference items) 1) p.0 in
    three _ _ _ (once is_third q items o.0) (once is_preference q items o.1) (once is_set q items p.1)
