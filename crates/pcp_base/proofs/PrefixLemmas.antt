-- A text writes one prefix at most, since no address has a slash.
use Rattle.std.proofs.Common.{◌≡◌, ℕ, ◌+◌, ◌<◌, ◌≤◌, ◌==◌, ◌⊎◌, inl, inr, true, false, List, [], ◌∷◌, ◌++◌, codes, decimal, All, refl, sym, ap, ◌∙◌, arith}
use Rattle.std.proofs.lemmas.Bool.Decides.{nat_tests}
use Rattle.std.proofs.lemmas.Fmt.{decimal_injective}
use Rattle.std.proofs.lemmas.List.{append_assoc, append_cancel_left}
use Rattle.std.proofs.lemmas.List.Elements.{All-weaker}
use Rattle.std.proofs.lemmas.List.Splits.{slice_split_at}
use Rattle.std.proofs.NetLemmas.Alphabet.{IsDigitOrDot, All-ipv4_text}
use Rattle.std.specs.List.{slice_split}
use Rattle.hex.specs.Hex.{is_hex_digit}
use Rattle.hex.proofs.HexLemmas.{IsOk-decode_sized}
use Rattle.pcp_base.specs.AddressTexts.{IsDottedText, IsWideText, IsPrefixText}
use Rattle.pcp_base.specs.declared.addresses.Address.{Address}
use Rattle.pcp_base.specs.declared.addresses.Prefix.{Prefix}
use Rattle.pcp_base.proofs.AddressLemmas.{IsDotted-not_wide, IsDottedText-unique, IsWideText-unique}
use Rattle.pcp_base.proofs.ColonLemmas.{IsColonOctet, All-colon_hex, four_fit}

abbrev pub HasNoSlash : List ℕ → Type 0
HasNoSlash text = All (λ c. (c == 47) ≡ false) text

digit_or_dot : (c : ℕ) → IsDigitOrDot c → (c == 47) ≡ false
digit_or_dot c h = grind (arith, nat_tests)

hex_digit : (c : ℕ) → is_hex_digit c ≡ true → (c == 47) ≡ false
hex_digit c h = grind (arith, nat_tests)

colon_octet : (c : ℕ) → IsColonOctet c → (c == 47) ≡ false
colon_octet c (inl h) = grind (arith, nat_tests)
colon_octet c (inr (inl h)) = grind (arith, nat_tests)
colon_octet c (inr (inr (inl h))) = grind (arith, nat_tests)
colon_octet c (inr (inr (inr h))) = grind (arith, nat_tests)

HasNoSlash-dotted : (text : List ℕ) (a : Address) → IsDottedText text a → HasNoSlash text
HasNoSlash-dotted text a h =
    let d = h.1 in
    let fits = four_fit d.a d.b d.c d.d d.fit.0 d.fit.1 d.fit.2 d.fit.3 in
    rw d.spelled (All-weaker IsDigitOrDot (λ c. (c == 47) ≡ false) digit_or_dot _ (All-ipv4_text (d.a ∷ d.b ∷ d.c ∷ d.d ∷ []) fits))

HasNoSlash-wide : (text : List ℕ) (a : Address) → IsWideText text a → HasNoSlash text
HasNoSlash-wide text a (inl h) =
    All-weaker (λ c. is_hex_digit c ≡ true) (λ c. (c == 47) ≡ false) hex_digit text ((IsOk-decode_sized text 16).0 (rw h refl)).1
HasNoSlash-wide text a (inr h) = All-weaker IsColonOctet (λ c. (c == 47) ≡ false) colon_octet text (All-colon_hex text h.0 h.1)

-- the parts at the first slash
parts_same : (front back front' back' : List ℕ) → HasNoSlash front → HasNoSlash front' → front ++ 47 ∷ back ≡ front' ++ 47 ∷ back' → (front ≡ front') × (back ≡ back')
parts_same front back front' back' h h' e =
    let split : front ∷ slice_split (λ c. c == 47) back ≡ front' ∷ slice_split (λ c. c == 47) back' =
    sym (slice_split_at (λ c. c == 47) front 47 back h refl) ∙ ap (slice_split (λ c. c == 47)) e ∙ slice_split_at (λ c. c == 47) front' 47 back' h' refl in
    let fronts : front ≡ front' = cc split in
    let rest = append_cancel_left front' (47 ∷ back) (47 ∷ back') (rw fronts at e) in
    (fronts, cc rest)

-- what the parts of a prefix's text write
abbrev pub IsPrefixParts : List ℕ → ℕ → Prefix → Type 0
IsPrefixParts front bits p =
    (IsDottedText front p.address × (bits ≤ 32) × (p.bits ≡ 96 + bits))
    ⊎ (IsWideText front p.address × (bits ≤ 128) × (p.bits ≡ bits))

bits_fit : (front : List ℕ) (bits : ℕ) (p : Prefix) → IsPrefixParts front bits p → bits ≤ 128
bits_fit front bits p (inl h) = omega (arith, h.1)
bits_fit front bits p (inr h) = h.1

HasNoSlash-front : (front : List ℕ) (bits : ℕ) (p : Prefix) → IsPrefixParts front bits p → HasNoSlash front
HasNoSlash-front front bits p (inl h) = HasNoSlash-dotted front p.address h.0
HasNoSlash-front front bits p (inr h) = HasNoSlash-wide front p.address h.0

pub back_is_number : (text front back : List ℕ) → HasNoSlash front → text ≡ front ++ codes "/" ++ back → (p : Prefix) → IsPrefixText text p
    → (bits : ℕ) × (bits ≤ 128) × (back ≡ decimal bits) × IsPrefixParts front bits p
back_is_number text front back h spelled p k =
    let same = parts_same front back k.0 (decimal k.1) h (HasNoSlash-front k.0 k.1 p k.3)
    (sym (append_assoc front (codes "/") back) ∙ sym spelled ∙ k.2 ∙ append_assoc k.0 (codes "/") (decimal k.1)) in
    (k.1, bits_fit k.0 k.1 p k.3, same.1, rw same.0 k.3)

number_same : (back : List ℕ) (m n : ℕ) → back ≡ decimal m → back ≡ decimal n → m ≤ 128 → n ≤ 128 → m ≡ n
number_same back m n em en hm hn = decimal_injective m n (omega arith) (omega arith) (sym em ∙ en)

pub same_prefix : (p q : Prefix) → p.bits ≡ q.bits → p.address ≡ q.address → p ≡ q
same_prefix p q e f = λ i. record { bits = e i; address = f i }

IsPrefixParts-unique : (front : List ℕ) (bits : ℕ) (p q : Prefix) → IsPrefixParts front bits p → IsPrefixParts front bits q → p ≡ q
IsPrefixParts-unique front bits p q (inl h) (inl k) = same_prefix p q (h.2 ∙ sym k.2) (IsDottedText-unique front p.address q.address h.0 k.0)
IsPrefixParts-unique front bits p q (inl h) (inr k) = absurd (IsDotted-not_wide front h.0.0 q.address h.0.1 k.0)
IsPrefixParts-unique front bits p q (inr h) (inl k) = absurd (IsDotted-not_wide front k.0.0 p.address k.0.1 h.0)
IsPrefixParts-unique front bits p q (inr h) (inr k) = same_prefix p q (h.2 ∙ sym k.2) (IsWideText-unique front p.address q.address h.0 k.0)

-- what any prefix of the text is, where the number is known
parts_of : (text front back : List ℕ) (bits : ℕ) → HasNoSlash front → text ≡ front ++ codes "/" ++ back → back ≡ decimal bits → bits ≤ 128 → (p : Prefix) → IsPrefixText text p
    → IsPrefixParts front bits p
parts_of text front back bits h spelled number fits p k =
    let parts = back_is_number text front back h spelled p k in
    let same = number_same back parts.0 bits parts.2 number parts.1 fits in
    rw same at parts.3

pub prefix_only : (text front back : List ℕ) (bits : ℕ) (p : Prefix) → HasNoSlash front → text ≡ front ++ codes "/" ++ back → back ≡ decimal bits → bits ≤ 128 → IsPrefixParts front bits p
    → (q : Prefix) → IsPrefixText text q → q ≡ p
prefix_only text front back bits p h spelled number fits parts q k = IsPrefixParts-unique front bits q p (parts_of text front back bits h spelled number fits q k) parts

pub prefix_refused : (text front back : List ℕ) (bits : ℕ) → HasNoSlash front → text ≡ front ++ codes "/" ++ back → back ≡ decimal bits → bits ≤ 128 → ((q : Prefix) → ¬ (IsPrefixParts front bits q))
    → (q : Prefix) → ¬ (IsPrefixText text q)
prefix_refused text front back bits h spelled number fits none q k = none q (parts_of text front back bits h spelled number fits q k)

pub number_refused : (text front back : List ℕ) → HasNoSlash front → text ≡ front ++ codes "/" ++ back → ((n : ℕ) → n ≤ 128 → ¬ (back ≡ decimal n)) → (q : Prefix) → ¬ (IsPrefixText text q)
number_refused text front back h spelled none q k =
    let parts = back_is_number text front back h spelled q k in
    none parts.0 parts.1 parts.2

pub dotted_beyond : (front : List ℕ) (bits : ℕ) (a : Address) → IsDottedText front a → 32 < bits → (q : Prefix) → ¬ (IsPrefixParts front bits q)
dotted_beyond front bits a h low q (inl k) = omega (arith, k.1)
dotted_beyond front bits a h low q (inr k) = IsDotted-not_wide front h.0 q.address h.1 k.0

pub no_front : (front : List ℕ) (bits : ℕ) → ((a : Address) → ¬ (IsDottedText front a)) → ((a : Address) → ¬ (IsWideText front a)) → (q : Prefix) → ¬ (IsPrefixParts front bits q)
no_front front bits dotted wide q (inl k) = dotted q.address k.0
no_front front bits dotted wide q (inr k) = wide q.address k.0
