-- An end comes to the place of the first one that doesn't stand before it.
use Rattle.std.proofs.Common.{◌≡◌, ℕ, zero, suc, ◌+◌, ◌<◌, ◌≤◌, nat_lt, not, Bool, true, false, cond, List, [], ◌∷◌, ◌++◌, Option, Some, None, refl, ap, sym, ◌∙◌, subst, arith, get_or}
use Rattle.std.specs.List.{position, position_from, insert}
use Rattle.std.proofs.Math.ListN.{set}
use Rattle.std.proofs.lemmas.Bool.{cond-true, cond-false, not-true, not-false, lt-ltb, le-ltb, false_from_ne_true}
use Rattle.std.proofs.lemmas.Iterator.Adapters.{position_from-zero}
use Rattle.pcp_base.specs.declared.leases.End.{End}
use Rattle.pcp_base.specs.Ends.{is_before, with_end}
use Rattle.pcp_base.proofs.EndOrder.{SamePort-refl, before-other, before-trans}

abbrev test : End → End → Bool
test e x = not (is_before x e)

-- the list with e at j, where x stands there
abbrev placed : End → List End → ℕ → End → List End
placed e xs j x = cond (is_before e x) (insert xs j e) (cond (nat_lt x.end e.end) (set xs j e) xs)

abbrev Places : End → List End → ℕ → Option ℕ → Type 0
Places e xs n None = xs ++ e ∷ [] ≡ with_end e xs
Places e xs n (Some i) = (j : ℕ) × (i ≡ n + j) × ((d : End) → placed e xs j (get_or xs j d) ≡ with_end e xs)

under : {X : Type 0} (b c : Bool) (x : X) (p q r : List X) → cond b (x ∷ p) (cond c (x ∷ q) (x ∷ r)) ≡ x ∷ cond b p (cond c q r)
under true c x p q r = refl
under false true x p q r = refl
under false false x p q r = refl

first : {X : Type 0} (b c f : Bool) (e x : X) (xs ws : List X) → f ≡ false → cond b (e ∷ x ∷ xs) (cond c (e ∷ xs) (x ∷ xs)) ≡ cond b (e ∷ x ∷ xs) (cond f (x ∷ ws) (cond c e x ∷ xs))
first true c f e x xs ws h = refl
first false true f e x xs ws h = rw h refl
first false false f e x xs ws h = rw h refl

before-once : (x e : End) → is_before x e ≡ true → is_before e x ≡ false
before-once x e h = false_from_ne_true (is_before e x) (λ k. before-other x x (before-trans x e x h k) (SamePort-refl x))

further : (e x : End) (xs : List End) → is_before x e ≡ true → with_end e (x ∷ xs) ≡ x ∷ with_end e xs
further e x xs h =
    cond-false (is_before e x) (e ∷ x ∷ xs) (cond (is_before x e) (x ∷ with_end e xs) (cond (nat_lt x.end e.end) e x ∷ xs)) (before-once x e h)
    ∙ cond-true (is_before x e) (x ∷ with_end e xs) (cond (nat_lt x.end e.end) e x ∷ xs) h

later : (e x : End) (xs : List End) (n : ℕ) (found : Option ℕ) → test e x ≡ false → Places e xs (n + 1) found → Places e (x ∷ xs) n found
later e x xs n None fails h = ap (λ zs. x ∷ zs) h ∙ sym (further e x xs (not-false (is_before x e) fails))
later e x xs n (Some i) fails h =
    let place : i ≡ n + suc h.0 = omega (arith, h.1) in (
      suc h.0,
      place,
      λ d.
          under (is_before e (get_or xs h.0 d)) (nat_lt (get_or xs h.0 d).end e.end) x (insert xs h.0 e) (set xs h.0 e) xs
          ∙ ap (λ zs. x ∷ zs) (h.2 d) ∙ sym (further e x xs (not-false (is_before x e) fails)),
    )

here : (e x : End) (xs : List End) (n : ℕ) → test e x ≡ true → Places e (x ∷ xs) n (Some n)
here e x xs n passes =
    (zero, omega arith, λ d. first (is_before e x) (nat_lt x.end e.end) (is_before x e) e x xs (with_end e xs) (not-true (is_before x e) passes))

chosen : (e x : End) (xs : List End) (n : ℕ) (found : Option ℕ) (b : Bool) → test e x ≡ b → Places e xs (n + 1) found → Places e (x ∷ xs) n (cond b (Some n) found)
chosen e x xs n found true h k = here e x xs n h
chosen e x xs n found false h k = later e x xs n found h k

places_from : (e : End) (xs : List End) (n : ℕ) → Places e xs n (position_from (test e) n xs)
places_from e [] n = refl
places_from e (x ∷ xs) n = chosen e x xs n (position_from (test e) (n + 1) xs) (test e x) refl (places_from e xs (n + 1))

places : (e : End) (xs : List End) (found : Option ℕ) → found ≡ position (test e) xs → Places e xs 0 found
places e xs found h = subst (Places e xs 0) (sym (h ∙ position_from-zero (test e) xs)) (places_from e xs 0)

pub end_behind : (e : End) (xs : List End) → None ≡ position (test e) xs → xs ++ e ∷ [] ≡ with_end e xs
end_behind e xs h = places e xs None h

at : (e : End) (xs : List End) (i : ℕ) (x : End) → Some i ≡ position (test e) xs → x ≡ get_or xs i x → placed e xs i x ≡ with_end e xs
at e xs i x h is =
    let found = places e xs (Some i) h in
    let same : i ≡ found.0 = omega (arith, found.1) in
    ap (λ y. placed e xs i y) is ∙ ap (λ k. placed e xs k (get_or xs k x)) same ∙ found.2 x

-- the end that stands at the place is a later one's, an earlier moment's, or stays
pub end_before : (e : End) (xs : List End) (i : ℕ) (x : End) → Some i ≡ position (test e) xs → x ≡ get_or xs i x →
    is_before e x ≡ true → insert xs i e ≡ with_end e xs
end_before e xs i x h is before = sym (cond-true (is_before e x) (insert xs i e) (cond (nat_lt x.end e.end) (set xs i e) xs) before) ∙ at e xs i x h is

pub end_instead : (e : End) (xs : List End) (i : ℕ) (x : End) → Some i ≡ position (test e) xs → x ≡ get_or xs i x →
    is_before e x ≡ false → x.end < e.end → set xs i e ≡ with_end e xs
end_instead e xs i x h is before sooner =
    sym (cond-false (is_before e x) (insert xs i e) (cond (nat_lt x.end e.end) (set xs i e) xs) before
    ∙ cond-true (nat_lt x.end e.end) (set xs i e) xs (lt-ltb x.end e.end sooner)) ∙ at e xs i x h is

pub end_held : (e : End) (xs : List End) (i : ℕ) (x : End) → Some i ≡ position (test e) xs → x ≡ get_or xs i x →
    is_before e x ≡ false → e.end ≤ x.end → xs ≡ with_end e xs
end_held e xs i x h is before later =
    sym (cond-false (is_before e x) (insert xs i e) (cond (nat_lt x.end e.end) (set xs i e) xs) before
    ∙ cond-false (nat_lt x.end e.end) (set xs i e) xs (le-ltb x.end e.end later)) ∙ at e xs i x h is
