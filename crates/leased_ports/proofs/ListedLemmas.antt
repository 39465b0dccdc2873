-- What there is at numbers in a row, as a list.
use Rattle.std.proofs.Common.{◌≡◌, ℕ, zero, suc, ◌+◌, ◌<◌, ◌≤◌, Bool, true, false, cond, List, [], ◌∷◌, ◌++◌, filter, Option, Some, None, option_to_list, append_assoc, refl, sym, ap, ◌∙◌, subst, inl, inr, arith}
use Rattle.pcp_base.specs.declared.leases.End.{End}
use Rattle.pcp_base.proofs.Members.{IsIn, IsIn-append, IsIn-left, IsIn-right}
use Rattle.expiry_wheel.proofs.Maps.{same_or_not}
use Rattle.leased_ports.specs.Listed.{listed}

pub listed-nil : (f : ℕ → Option End) (at : ℕ) → listed f at 0 ≡ []
unfolding listed
listed-nil f at = refl

pub listed-cons : (f : ℕ → Option End) (at n : ℕ) → listed f at (suc n) ≡ option_to_list (f at) ++ listed f (at + 1) n
unfolding listed
listed-cons f at n = refl

-- the same at each number is the same list
pub listed-same : (f g : ℕ → Option End) (at n : ℕ) → ((i : ℕ) → at ≤ i → i < at + n → f i ≡ g i) → listed f at n ≡ listed g at n
listed-same f g at zero h = listed-nil f at ∙ sym (listed-nil g at)
listed-same f g at (suc n) h =
    listed-cons f at n
    ∙ ap (λ (o : Option End). option_to_list o ++ listed f (at + 1) n) (h at (omega arith) (omega arith))
    ∙ ap (λ (xs : List End). option_to_list (g at) ++ xs) (listed-same f g (at + 1) n (λ i a b. h i (omega (arith, a)) (omega (arith, b))))
    ∙ sym (listed-cons g at n)

pub listed-empty : (f : ℕ → Option End) (at n : ℕ) → ((i : ℕ) → at ≤ i → i < at + n → f i ≡ None) → listed f at n ≡ []
listed-empty f at zero h = listed-nil f at
listed-empty f at (suc n) h =
    listed-cons f at n
    ∙ ap (λ (o : Option End). option_to_list o ++ listed f (at + 1) n) (h at (omega arith) (omega arith))
    ∙ listed-empty f (at + 1) n (λ i a b. h i (omega (arith, a)) (omega (arith, b)))

pub listed-split : (f : ℕ → Option End) (at a b n : ℕ) → n ≡ a + b → listed f at n ≡ listed f at a ++ listed f (at + a) b
listed-split f at zero b n h =
    let same : n ≡ b = omega (arith, h) in
    let here : at ≡ at + 0 = omega arith in
    ap (listed f at) same ∙ ap (λ (k : ℕ). listed f k b) here ∙ ap (λ (xs : List End). xs ++ listed f (at + 0) b) (sym (listed-nil f at))
listed-split f at (suc a) b zero h = absurd (omega (arith, h))
listed-split f at (suc a) b (suc n) h =
    let next : (at + 1) + a ≡ at + suc a = omega arith in
    listed-cons f at n
    ∙ ap (λ (xs : List End). option_to_list (f at) ++ xs) (listed-split f (at + 1) a b n (omega (arith, h)))
    ∙ sym (append_assoc (option_to_list (f at)) (listed f (at + 1) a) (listed f ((at + 1) + a) b))
    ∙ ap (λ (k : ℕ). (option_to_list (f at) ++ listed f (at + 1) a) ++ listed f k b) next
    ∙ ap (λ (xs : List End). xs ++ listed f (at + suc a) b) (sym (listed-cons f at a))

-- one number more
pub listed-more : (f : ℕ → Option End) (at n : ℕ) → listed f at (n + 1) ≡ listed f at n ++ option_to_list (f (at + n))
listed-more f at n =
    listed-split f at n 1 (n + 1) refl
    ∙ ap (λ (xs : List End). listed f at n ++ xs) (listed-cons f (at + n) 0 ∙ ap (λ (xs : List End). option_to_list (f (at + n)) ++ xs) (listed-nil f (at + n + 1)) ∙ alone (f (at + n)))
  where
    alone : (o : Option End) → option_to_list o ++ [] ≡ option_to_list o
    alone None = refl
    alone (Some e) = refl

-- the numbers told from another one on
pub listed-shift : (f : ℕ → Option End) (k at n : ℕ) → listed (λ i. f (k + i)) at n ≡ listed f (k + at) n
listed-shift f k at zero = listed-nil (λ i. f (k + i)) at ∙ sym (listed-nil f (k + at))
listed-shift f k at (suc n) =
    let next : k + (at + 1) ≡ (k + at) + 1 = omega arith in
    listed-cons (λ i. f (k + i)) at n
    ∙ ap (λ (xs : List End). option_to_list (f (k + at)) ++ xs) (listed-shift f k (at + 1) n ∙ ap (λ (j : ℕ). listed f j n) next)
    ∙ sym (listed-cons f (k + at) n)

-- ---- a part of it

-- the end, where it passes
abbrev pub if_passing : (End → Bool) → Option End → Option End
if_passing p None = None
if_passing p (Some e) = cond (p e) (Some e) None

filter_test : (p : End → Bool) (e : End) (xs ys : List End) (b : Bool) → filter p xs ≡ ys → cond b (e ∷ filter p xs) (filter p xs) ≡ option_to_list (cond b (Some e) None) ++ ys
filter_test p e xs ys true rest = ap (λ (zs : List End). e ∷ zs) rest
filter_test p e xs ys false rest = rest

filter_step : (p : End → Bool) (o : Option End) (xs ys : List End) → filter p xs ≡ ys → filter p (option_to_list o ++ xs) ≡ option_to_list (if_passing p o) ++ ys
filter_step p None xs ys rest = rest
filter_step p (Some e) xs ys rest = filter_test p e xs ys (p e) rest

pub listed-filter : (p : End → Bool) (f : ℕ → Option End) (at n : ℕ) → filter p (listed f at n) ≡ listed (λ i. if_passing p (f i)) at n
listed-filter p f at zero = ap (filter p) (listed-nil f at) ∙ sym (listed-nil (λ i. if_passing p (f i)) at)
listed-filter p f at (suc n) =
    ap (filter p) (listed-cons f at n)
    ∙ filter_step p (f at) (listed f (at + 1) n) (listed (λ i. if_passing p (f i)) (at + 1) n) (listed-filter p f (at + 1) n)
    ∙ sym (listed-cons (λ i. if_passing p (f i)) at n)

-- ---- members

some-in : (o : Option End) (e : End) → IsIn e (option_to_list o) → o ≡ Some e
some-in None e h = absurd h
some-in (Some x) e (inl same) = ap Some same
some-in (Some x) e (inr h) = absurd h

in-some : (o : Option End) (e : End) → o ≡ Some e → IsIn e (option_to_list o)
in-some o e h = subst (λ (x : Option End). IsIn e (option_to_list x)) (sym h) (inl refl)

-- what stands in the list stands at a number
pub listed-IsIn : (f : ℕ → Option End) (at n : ℕ) (e : End) → IsIn e (listed f at n) → (i : ℕ) × (at ≤ i) × (f i ≡ Some e)
listed-IsIn f at zero e h = absurd (subst (λ (xs : List End). IsIn e xs) (listed-nil f at) h)
listed-IsIn f at (suc n) e h =
    elim (IsIn-append (option_to_list (f at)) (listed f (at + 1) n) e (subst (λ (xs : List End). IsIn e xs) (listed-cons f at n) h)) [
      | inl here ↦ (at, omega arith, some-in (f at) e here)
      | inr behind ↦ (let k = listed-IsIn f (at + 1) n e behind in (k.0, omega (arith, k.1), k.2))
    ]

pub IsIn-listed : (f : ℕ → Option End) (at n i : ℕ) (e : End) → at ≤ i → i < at + n → f i ≡ Some e → IsIn e (listed f at n)
IsIn-listed f at zero i e low high told = absurd (omega (arith, low, high))
IsIn-listed f at (suc n) i e low high told =
    subst (λ (xs : List End). IsIn e xs) (sym (listed-cons f at n))
    (elim (same_or_not i at) [
      | inl same ↦ IsIn-left (option_to_list (f at)) (listed f (at + 1) n) e (in-some (f at) e (ap f (sym same) ∙ told))
      | inr other ↦ IsIn-right (option_to_list (f at)) (listed f (at + 1) n) e (IsIn-listed f (at + 1) n i e (grind (arith, low, other)) (omega (arith, high)) told)
    ])
