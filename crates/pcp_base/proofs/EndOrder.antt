-- The order of ends, and what one more end makes of a list in this order.
use Rattle.std.specs.Prelude.{◌≡◌, refl, ℕ, ◌<◌, ◌≤◌, ◌⊎◌, ◌&&◌, ◌||◌, ◌==◌, nat_lt, Bool, true, false, List, [], ◌∷◌, if◌then◌else◌}
use Rattle.std.specs.List.{AllByRecursion}
use Rattle.std.proofs.Common.{inl, inr, sym, ◌∙◌, subst, arith}
use Rattle.std.proofs.lemmas.Bool.{cond_both, or_cases, or_parts, or_left, or_right, and_parts, and_from, and_cases, ltb-true, ltb-false, lt-ltb, eqb-true, eqb-false, eq-eqb}
use Rattle.pcp_base.specs.declared.leases.End.{End}
use Rattle.pcp_base.specs.Protocols.{protocol_number}
use Rattle.pcp_base.specs.Tables.{EachTwo}
use Rattle.pcp_base.specs.Ends.{is_before, with_end, with_ends}
use Rattle.pcp_base.proofs.Members.{IsIn, All-IsIn, All-weaker}

-- ---- pairs of numbers

abbrev less : ℕ → ℕ → ℕ → ℕ → Bool
less x p y q = nat_lt x y || (x == y && nat_lt p q)

abbrev Less : ℕ → ℕ → ℕ → ℕ → Type 0
Less x p y q = (x < y) ⊎ ((x ≡ y) × (p < q))

less-true : (x p y q : ℕ) → less x p y q ≡ true → Less x p y q
less-true x p y q h =
    elim (or_cases (nat_lt x y) (x == y && nat_lt p q) h) [
      | inl a ↦ inl (ltb-true x y a)
      | inr b ↦ (let c = and_parts (x == y) (nat_lt p q) b in inr (eqb-true x y c.0, ltb-true p q c.1))
    ]

less-from : (x p y q : ℕ) → Less x p y q → less x p y q ≡ true
less-from x p y q (inl a) = or_left (nat_lt x y) (x == y && nat_lt p q) (lt-ltb x y a)
less-from x p y q (inr b) = or_right (nat_lt x y) (x == y && nat_lt p q) (and_from (x == y) (nat_lt p q) (eq-eqb x y b.0) (lt-ltb p q b.1))

less-trans : (x p y q z r : ℕ) → Less x p y q → Less y q z r → Less x p z r
less-trans x p y q z r (inl a) (inl b) = inl (omega arith)
less-trans x p y q z r (inl a) (inr b) = inl (omega (arith, b.0))
less-trans x p y q z r (inr a) (inl b) = inl (omega (arith, a.0))
less-trans x p y q z r (inr a) (inr b) = inr (omega (arith, a.0, b.0), omega (arith, a.1, b.1))

less-irreflexive : (x p y q : ℕ) → x ≡ y → p ≡ q → Less x p y q → ⊥
less-irreflexive x p y q e f (inl a) = absurd (omega arith)
less-irreflexive x p y q e f (inr b) = absurd (omega (arith, b.1))

less-false : (x p y q : ℕ) → less x p y q ≡ false → y ≤ x
less-false x p y q h = ltb-false x y (or_parts (nat_lt x y) (x == y && nat_lt p q) h).0

less-false_here : (x p y q : ℕ) → less x p y q ≡ false → x ≡ y → q ≤ p
less-false_here x p y q h e =
    elim (and_cases (x == y) (nat_lt p q) (or_parts (nat_lt x y) (x == y && nat_lt p q) h).1) [
      | inl a ↦ absurd (eqb-false x y a e)
      | inr b ↦ ltb-false p q b
    ]

-- ---- ends

abbrev pub number : End → ℕ
number e = protocol_number e.endpoint.protocol

-- they are of one port
pub record SamePort (a b : End) : Type 0 where
  pub protocol : number a ≡ number b
  pub external : a.external ≡ b.external

pub SamePort-refl : (a : End) → SamePort a a
SamePort-refl a = record { protocol = refl; external = refl }

pub SamePort-sym : (a b : End) → SamePort a b → SamePort b a
SamePort-sym a b h = record { protocol = sym h.protocol; external = sym h.external }

pub SamePort-trans : (a b c : End) → SamePort a b → SamePort b c → SamePort a c
SamePort-trans a b c h k = record { protocol = h.protocol ∙ k.protocol; external = h.external ∙ k.external }

pub before-trans : (a b c : End) → is_before a b ≡ true → is_before b c ≡ true → is_before a c ≡ true
before-trans a b c h k =
    less-from (number a) a.external (number c) c.external
    (less-trans (number a) a.external (number b) b.external (number c) c.external
    (less-true (number a) a.external (number b) b.external h) (less-true (number b) b.external (number c) c.external k))

pub before-other : (a b : End) → is_before a b ≡ true → SamePort a b → ⊥
before-other a b h same = less-irreflexive (number a) a.external (number b) b.external same.protocol same.external (less-true (number a) a.external (number b) b.external h)

pub before-neither : (a b : End) → is_before a b ≡ false → is_before b a ≡ false → SamePort a b
before-neither a b h k =
    let up = less-false (number a) a.external (number b) b.external h in
    let down = less-false (number b) b.external (number a) a.external k in
    let numbers : number a ≡ number b = omega arith in
    let left = less-false_here (number a) a.external (number b) b.external h numbers in
    let right = less-false_here (number b) b.external (number a) a.external k (sym numbers) in record {
      protocol = numbers;
      external = omega arith;
    }

pub before-same : (a b c : End) → SamePort a b → is_before a c ≡ true → is_before b c ≡ true
before-same a b c same h =
    subst (λ (p : ℕ). less (number b) p (number c) c.external ≡ true) same.external
    (subst (λ (n : ℕ). less n a.external (number c) c.external ≡ true) same.protocol h)

-- ---- lists

-- the ends stand in their order
abbrev pub InOrder : List End → Type 0
InOrder ends = EachTwo (λ a b. is_before a b ≡ true) ends

later : End → End → End
later e x = if nat_lt x.end e.end then e else x

-- what holds of each end holds of each with one more
pub with_end-all : (P : End → Type 0) (e : End) (xs : List End) → P e → AllByRecursion P xs → AllByRecursion P (with_end e xs)
with_end-all P e [] h a = (h, tt)
with_end-all P e (x ∷ xs) h a =
    cond_both (is_before e x) _ _ (λ ys. AllByRecursion P ys) (λ _. (h, a))
    (λ _. cond_both (is_before x e) _ _ (λ ys. AllByRecursion P ys) (λ _. (a.0, with_end-all P e xs h a.1))
    (λ _. (cond_both (nat_lt x.end e.end) e x P (λ _. h) (λ _. a.0), a.1)))

pub with_ends-all : (P : End → Type 0) (es xs : List End) → AllByRecursion P es → AllByRecursion P xs → AllByRecursion P (with_ends es xs)
with_ends-all P [] xs h a = a
with_ends-all P (e ∷ es) xs h a = with_end-all P e (with_ends es xs) h.0 (with_ends-all P es xs h.1 a)

pub with_end-ordered : (e : End) (xs : List End) → InOrder xs → InOrder (with_end e xs)
with_end-ordered e [] h = (tt, tt)
with_end-ordered e (x ∷ xs) h =
    cond_both (is_before e x) _ _ (λ ys. InOrder ys)
    (λ yes. ((yes, All-weaker (λ z. is_before x z ≡ true) (λ z. is_before e z ≡ true) (λ z. before-trans e x z yes) xs h.0), h))
    (λ not_e. cond_both (is_before x e) _ _ (λ ys. InOrder ys)
    (λ yes. (with_end-all (λ z. is_before x z ≡ true) e xs yes h.0, with_end-ordered e xs h.1))
    (λ not_x. cond_both (nat_lt x.end e.end) e x (λ y. InOrder (y ∷ xs))
    (λ _. (All-weaker (λ z. is_before x z ≡ true) (λ z. is_before e z ≡ true) (λ z. before-same x e z (before-neither x e not_x not_e)) xs h.0, h.1))
    (λ _. h)))

pub with_ends-ordered : (es xs : List End) → InOrder xs → InOrder (with_ends es xs)
with_ends-ordered [] xs h = h
with_ends-ordered (e ∷ es) xs h = with_end-ordered e (with_ends es xs) (with_ends-ordered es xs h)

-- in order, two ends of one port are one end
pub InOrder-one : (xs : List End) (a b : End) → InOrder xs → IsIn a xs → IsIn b xs → SamePort a b → a ≡ b
InOrder-one [] a b h k l same = absurd k
InOrder-one (x ∷ xs) a b h (inl e) (inl f) same = sym e ∙ f
InOrder-one (x ∷ xs) a b h (inr k) (inr l) same = InOrder-one xs a b h.1 k l same
InOrder-one (x ∷ xs) a b h (inl e) (inr l) same =
    absurd (before-other a b (subst (λ (y : End). is_before y b ≡ true) e (All-IsIn (λ z. is_before x z ≡ true) xs b h.0 l)) same)
InOrder-one (x ∷ xs) a b h (inr k) (inl f) same =
    absurd (before-other b a (subst (λ (y : End). is_before y a ≡ true) f (All-IsIn (λ z. is_before x z ≡ true) xs a h.0 k)) (SamePort-sym a b same))

-- the list has an end of this port that isn't earlier
pub record HasAsLate (xs : List End) (y : End) : Type 0 where
  pub end : End
  pub there : IsIn end xs
  pub port : SamePort y end
  pub as_late : y.end ≤ end.end

pub with_end-has : (e : End) (xs : List End) → HasAsLate (with_end e xs) e
with_end-has e [] = record { end = e; there = inl refl; port = SamePort-refl e; as_late = omega arith }
with_end-has e (x ∷ xs) =
    cond_both (is_before e x) _ _ (λ ys. HasAsLate ys e)
    (λ _. record { end = e; there = inl refl; port = SamePort-refl e; as_late = omega arith })
    (λ not_e. cond_both (is_before x e) _ _ (λ ys. HasAsLate ys e)
    (λ _. let r = with_end-has e xs in record { end = r.end; there = inr r.there; port = r.port; as_late = r.as_late })
    (λ not_x. cond_both (nat_lt x.end e.end) e x (λ y. HasAsLate (y ∷ xs) e)
    (λ _. record { end = e; there = inl refl; port = SamePort-refl e; as_late = omega arith })
    (λ no. record { end = x; there = inl refl; port = before-neither e x not_e not_x; as_late = ltb-false x.end e.end no })))

pub with_end-keeps : (e : End) (xs : List End) (y : End) → IsIn y xs → HasAsLate (with_end e xs) y
with_end-keeps e [] y h = absurd h
with_end-keeps e (x ∷ xs) y (inl same) =
    subst (λ (z : End). HasAsLate (with_end e (x ∷ xs)) z) same
    (cond_both (is_before e x) _ _ (λ ys. HasAsLate ys x)
    (λ _. record { end = x; there = inr (inl refl); port = SamePort-refl x; as_late = omega arith })
    (λ not_e. cond_both (is_before x e) _ _ (λ ys. HasAsLate ys x)
    (λ _. record { end = x; there = inl refl; port = SamePort-refl x; as_late = omega arith })
    (λ not_x. cond_both (nat_lt x.end e.end) e x (λ y. HasAsLate (y ∷ xs) x)
    (λ lt. record { end = e; there = inl refl; port = before-neither x e not_x not_e; as_late = (let l = ltb-true x.end e.end lt in omega arith) })
    (λ _. record { end = x; there = inl refl; port = SamePort-refl x; as_late = omega arith }))))
with_end-keeps e (x ∷ xs) y (inr h) =
    cond_both (is_before e x) _ _ (λ ys. HasAsLate ys y)
    (λ _. record { end = y; there = inr (inr h); port = SamePort-refl y; as_late = omega arith })
    (λ not_e. cond_both (is_before x e) _ _ (λ ys. HasAsLate ys y)
    (λ _. let r = with_end-keeps e xs y h in record { end = r.end; there = inr r.there; port = r.port; as_late = r.as_late })
    (λ not_x. record { end = y; there = inr h; port = SamePort-refl y; as_late = omega arith }))

HasAsLate-trans : (xs : List End) (y z : End) → SamePort y z → y.end ≤ z.end → HasAsLate xs z → HasAsLate xs y
HasAsLate-trans xs y z same late h = record { end = h.end; there = h.there; port = SamePort-trans y z h.end same h.port; as_late = omega (arith, h.as_late) }

pub with_ends-keeps : (es xs : List End) (y : End) → IsIn y xs → HasAsLate (with_ends es xs) y
with_ends-keeps [] xs y h = record { end = y; there = h; port = SamePort-refl y; as_late = omega arith }
with_ends-keeps (e ∷ es) xs y h =
    let r = with_ends-keeps es xs y h in
    HasAsLate-trans (with_end e (with_ends es xs)) y r.end r.port r.as_late (with_end-keeps e (with_ends es xs) r.end r.there)

pub with_ends-has : (es xs : List End) (y : End) → IsIn y es → HasAsLate (with_ends es xs) y
with_ends-has [] xs y h = absurd h
with_ends-has (e ∷ es) xs y (inl same) = subst (λ (z : End). HasAsLate (with_end e (with_ends es xs)) z) same (with_end-has e (with_ends es xs))
with_ends-has (e ∷ es) xs y (inr h) =
    let r = with_ends-has es xs y h in
    HasAsLate-trans (with_end e (with_ends es xs)) y r.end r.port r.as_late (with_end-keeps e (with_ends es xs) r.end r.there)
