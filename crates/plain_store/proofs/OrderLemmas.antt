-- An owner comes to the first place at which the search for it ends.
use Rattle.std.proofs.Common.{◌≡◌, ℕ, zero, suc, ◌+◌, not, Bool, true, false, cond, ◌||◌, List, [], ◌∷◌, ◌++◌, Option, Some, None, refl, ap, sym, ◌∙◌, subst, arith, get_or}
use Rattle.std.specs.List.{position, position_from, insert}
use Rattle.std.proofs.lemmas.Bool.{cond-true, cond-false, or_parts, not-false}
use Rattle.std.proofs.lemmas.Iterator.Adapters.{position_from-zero}
use Rattle.pcp_base.specs.declared.leases.Owner.{Owner}
use Rattle.lease_store.specs.OwnerOrder.{precedes, with_owner, in_order}

abbrev ends_at : Owner → Owner → Bool
ends_at o x = precedes o x || not (precedes x o)

-- the list with o at j, where x stands there
abbrev placed : Owner → List Owner → ℕ → Owner → List Owner
placed o xs j x = cond (precedes o x) (insert xs j o) xs

abbrev Places : Owner → List Owner → ℕ → Option ℕ → Type 0
Places o xs n None = xs ++ o ∷ [] ≡ with_owner o xs
Places o xs n (Some i) = (j : ℕ) × (i ≡ n + j) × ((d : Owner) → placed o xs j (get_or xs j d) ≡ with_owner o xs)

under : (b : Bool) (x : Owner) (p q : List Owner) → cond b (x ∷ p) (x ∷ q) ≡ x ∷ cond b p q
under true x p q = refl
under false x p q = refl

first : (b c : Bool) (o x : Owner) (xs ws : List Owner) → (b || not c) ≡ true → cond b (o ∷ x ∷ xs) (x ∷ xs) ≡ cond b (o ∷ x ∷ xs) (cond c (x ∷ ws) (x ∷ xs))
first true c o x xs ws h = refl
first false false o x xs ws h = refl
first false true o x xs ws h = absurd cc

further : (o x : Owner) (xs : List Owner) → ends_at o x ≡ false → with_owner o (x ∷ xs) ≡ x ∷ with_owner o xs
further o x xs h =
    let parts = or_parts (precedes o x) (not (precedes x o)) h in
    cond-false (precedes o x) (o ∷ x ∷ xs) (cond (precedes x o) (x ∷ with_owner o xs) (x ∷ xs)) parts.0
    ∙ cond-true (precedes x o) (x ∷ with_owner o xs) (x ∷ xs) (not-false (precedes x o) parts.1)

later : (o x : Owner) (xs : List Owner) (n : ℕ) (found : Option ℕ) → ends_at o x ≡ false → Places o xs (n + 1) found → Places o (x ∷ xs) n found
later o x xs n None fails h = ap (λ zs. x ∷ zs) h ∙ sym (further o x xs fails)
later o x xs n (Some i) fails h =
    let place : i ≡ n + suc h.0 = omega (arith, h.1) in (
      suc h.0,
      place,
      λ d. under (precedes o (get_or xs h.0 d)) x (insert xs h.0 o) xs ∙ ap (λ zs. x ∷ zs) (h.2 d) ∙ sym (further o x xs fails),
    )

here : (o x : Owner) (xs : List Owner) (n : ℕ) → ends_at o x ≡ true → Places o (x ∷ xs) n (Some n)
here o x xs n passes = (zero, omega arith, λ d. first (precedes o x) (precedes x o) o x xs (with_owner o xs) passes)

chosen : (o x : Owner) (xs : List Owner) (n : ℕ) (found : Option ℕ) (b : Bool) → ends_at o x ≡ b → Places o xs (n + 1) found → Places o (x ∷ xs) n (cond b (Some n) found)
chosen o x xs n found true h k = here o x xs n h
chosen o x xs n found false h k = later o x xs n found h k

places_from : (o : Owner) (xs : List Owner) (n : ℕ) → Places o xs n (position_from (ends_at o) n xs)
places_from o [] n = refl
places_from o (x ∷ xs) n = chosen o x xs n (position_from (ends_at o) (n + 1) xs) (ends_at o x) refl (places_from o xs (n + 1))

places : (o : Owner) (xs : List Owner) (found : Option ℕ) → found ≡ position (ends_at o) xs → Places o xs 0 found
places o xs found h = subst (Places o xs 0) (sym (h ∙ position_from-zero (ends_at o) xs)) (places_from o xs 0)

pub owner_behind : (o : Owner) (xs : List Owner) → None ≡ position (ends_at o) xs → xs ++ o ∷ [] ≡ with_owner o xs
owner_behind o xs h = places o xs None h

at : (o : Owner) (xs : List Owner) (i : ℕ) (x : Owner) → Some i ≡ position (ends_at o) xs → x ≡ get_or xs i x → placed o xs i x ≡ with_owner o xs
at o xs i x h is =
    let found = places o xs (Some i) h in
    let same : i ≡ found.0 = omega (arith, found.1) in
    ap (λ y. placed o xs i y) is ∙ ap (λ k. placed o xs k (get_or xs k x)) same ∙ found.2 x

pub owner_before : (o : Owner) (xs : List Owner) (i : ℕ) (x : Owner) → Some i ≡ position (ends_at o) xs → x ≡ get_or xs i x →
    precedes o x ≡ true → insert xs i o ≡ with_owner o xs
owner_before o xs i x h is before = sym (cond-true (precedes o x) (insert xs i o) xs before) ∙ at o xs i x h is

pub owner_held : (o : Owner) (xs : List Owner) (i : ℕ) (x : Owner) → Some i ≡ position (ends_at o) xs → x ≡ get_or xs i x →
    precedes o x ≡ false → xs ≡ with_owner o xs
owner_held o xs i x h is before = sym (cond-false (precedes o x) (insert xs i o) xs before) ∙ at o xs i x h is

-- owners put into a list in order, the last one first
abbrev pub with_owners : List Owner → List Owner → List Owner
with_owners [] xs = xs
with_owners (o ∷ os) xs = with_owner o (with_owners os xs)

pub in_order-is : (os : List Owner) → with_owners os [] ≡ in_order os
in_order-is [] = refl
in_order-is (o ∷ os) = ap (with_owner o) (in_order-is os)

pub last_added : (os : List Owner) (o : Owner) (xs : List Owner) → with_owners (os ++ o ∷ []) xs ≡ with_owners os (with_owner o xs)
last_added [] o xs = refl
last_added (x ∷ os) o xs = ap (with_owner x) (last_added os o xs)
