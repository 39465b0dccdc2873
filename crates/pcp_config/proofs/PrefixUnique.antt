-- A text writes one prefix at most: its number stands behind the last slash.
use Rattle.std.proofs.Common.{◌≡◌, ◌≢◌, ℕ, ◌+◌, ◌<◌, ◌≤◌, ◌⊎◌, inl, inr, List, [], ◌∷◌, ◌++◌, codes, decimal, refl, sym, ◌∙◌, arith, append_assoc}
use Rattle.std.specs.List.{AllByRecursion}
use Rattle.std.specs.Str.Parse.{AllDigits}
use Rattle.std.proofs.lemmas.Fmt.{decimal_injective, decimal_is_IsNumeral}
use Rattle.pcp_base.specs.AddressTexts.{IsDottedText, IsWideText, IsPrefixText}
use Rattle.pcp_base.specs.declared.addresses.Prefix.{Prefix}
use Rattle.pcp_base.proofs.AddressLemmas.{IsDotted-not_wide, IsDottedText-unique, IsWideText-unique}
use Rattle.pcp_base.proofs.PrefixLemmas.{same_prefix}

abbrev HasNoSlash : List ℕ → Type 0
HasNoSlash text = AllByRecursion (λ c. c ≢ 47) text

digits_no_slash : (text : List ℕ) → AllDigits 10 text → HasNoSlash text
digits_no_slash [] h = tt
digits_no_slash (c ∷ text) h = (λ e. let low = rw e at h.0 in omega arith, digits_no_slash text h.1)

decimal_no_slash : (n : ℕ) → n < 256 → HasNoSlash (decimal n)
decimal_no_slash n fits = digits_no_slash (decimal n) (decimal_is_IsNumeral n (omega arith)).0.1

slash_inside : (xs bs : List ℕ) → ¬ (HasNoSlash (xs ++ 47 ∷ bs))
slash_inside [] bs h = h.0 refl
slash_inside (x ∷ xs) bs h = slash_inside xs bs h.1

last_slash : (xs ys bs cs : List ℕ) → HasNoSlash bs → HasNoSlash cs → xs ++ 47 ∷ bs ≡ ys ++ 47 ∷ cs → (xs ≡ ys) × (bs ≡ cs)
last_slash [] [] bs cs h k e = (refl, cc e)
last_slash [] (y ∷ ys) bs cs h k e =
    let rest : bs ≡ ys ++ 47 ∷ cs = cc e in
    absurd (slash_inside ys cs (rw rest at h))
last_slash (x ∷ xs) [] bs cs h k e =
    let rest : xs ++ 47 ∷ bs ≡ cs = cc e in
    absurd (slash_inside xs bs (rw (← rest) at k))
last_slash (x ∷ xs) (y ∷ ys) bs cs h k e =
    let first : x ≡ y = cc e in
    let rest : xs ++ 47 ∷ bs ≡ ys ++ 47 ∷ cs = cc e in
    let found = last_slash xs ys bs cs h k rest in
    let fronts : xs ≡ ys = found.0 in (cc, found.1)

-- what stands before the slash, and the number behind it
abbrev Parts : List ℕ → ℕ → Prefix → Type 0
Parts front bits p =
    (IsDottedText front p.address × (bits ≤ 32) × (p.bits ≡ 96 + bits))
    ⊎ (IsWideText front p.address × (bits ≤ 128) × (p.bits ≡ bits))

bits_fit : (front : List ℕ) (bits : ℕ) (p : Prefix) → Parts front bits p → bits ≤ 128
bits_fit front bits p (inl h) = omega (arith, h.1)
bits_fit front bits p (inr h) = h.1

parts_unique : (front : List ℕ) (bits : ℕ) (p q : Prefix) → Parts front bits p → Parts front bits q → p ≡ q
parts_unique front bits p q (inl h) (inl k) = same_prefix p q (h.2 ∙ sym k.2) (IsDottedText-unique front p.address q.address h.0 k.0)
parts_unique front bits p q (inl h) (inr k) = absurd (IsDotted-not_wide front h.0.0 q.address h.0.1 k.0)
parts_unique front bits p q (inr h) (inl k) = absurd (IsDotted-not_wide front k.0.0 p.address k.0.1 h.0)
parts_unique front bits p q (inr h) (inr k) = same_prefix p q (h.2 ∙ sym k.2) (IsWideText-unique front p.address q.address h.0 k.0)

pub IsPrefixText-unique : (text : List ℕ) (p q : Prefix) → IsPrefixText text p → IsPrefixText text q → p ≡ q
IsPrefixText-unique text p q (front, bits, e, h) (front', bits', e', k) =
    let fit = bits_fit front bits p h in
    let fit' = bits_fit front' bits' q k in
    let both : front ++ 47 ∷ decimal bits ≡ front' ++ 47 ∷ decimal bits' =
    sym (append_assoc front (codes "/") (decimal bits)) ∙ sym e ∙ e' ∙ append_assoc front' (codes "/") (decimal bits') in
    let same = last_slash front front' (decimal bits) (decimal bits') (decimal_no_slash bits (omega (arith, fit))) (decimal_no_slash bits' (omega (arith, fit'))) both in
    let number : bits ≡ bits' = decimal_injective bits bits' (omega (arith, fit)) (omega (arith, fit')) same.1 in
    let fronts : front ≡ front' = same.0 in
    parts_unique front' bits' p q (rw (fronts, number) at h) k
