-- A text writes one address at most, and each address has a text.
use Rattle.std.proofs.Common.{◌≡◌, ℕ, ◌+◌, ◌<◌, ◌≤◌, ◌^◌, true, get_or, drop, take, nat_eq, inl, inr, List, [], ◌++◌, codes, decimal, length, sym, ap, ◌∙◌, arith, lit≤, Ok}
use Rattle.std.specs.Net.Grammar.{IsDotted}
use Rattle.std.specs.Net.Text.{dotted_text}
use Rattle.std.specs.Str.{IsAscii, IsUtf8}
use Rattle.std.specs.Net.Addr.{octets_of}
use Rattle.std.proofs.NetLemmas.Ipv4.{read_ipv4_complete}
use Rattle.std.proofs.NetLemmas.Ipv6.{IsDotted-not_colon_hex}
use Rattle.std.proofs.NetLemmas.Options.{same_parts}
use Rattle.std.proofs.lemmas.Fmt.{IsAscii-decimal, length-decimal-le}
use Rattle.std.proofs.lemmas.Bool.{cases_Bool}
use Rattle.std.proofs.lemmas.List.{length-append, length-drop, get_or-drop, take-append-drop}
use Rattle.std.proofs.NetLemmas.Texts.{IsDotted-ipv4_text}
use Rattle.std.specs.Cmp.Lexicographic.{same_text}
use Rattle.std.specs.List.{starts_with}
use Rattle.std.proofs.lemmas.Str.{IsUtf8-from_ascii, IsAscii-append}
use Rattle.std.proofs.lemmas.Str.Ascii.{IsAscii-nil, IsAscii-cons}
use Rattle.hex.proofs.HexLemmas.{decode_sized-ok, decode_sized-encode_lower}
use Rattle.hex.specs.Hex.{IsBytes, decode_sized}
use Rattle.std.specs.Prelude.{Option, Some, None, Result, IfSome, IfNone, IfOk, OnErr}
use Rattle.std.specs.Option.{ok_or}
use Rattle.pcp_base.specs.AddressTexts.{v4_front, IsDottedText, IsLongText, IsColonText, IsWideText, IsAddressText, address_text}
use Rattle.pcp_base.specs.declared.addresses.Address.{Address}
use Rattle.pcp_base.specs.declared.addresses.NotAddress.{NotAddress}
use Rattle.pcp_base.proofs.ColonLemmas.{IsColonHex-unique, IsColonHex-not_long}

dot : IsAscii (codes ".")
dot = IsAscii-cons 46 [] (omega arith) IsAscii-nil

pub IsDotted-utf8 : (text octets : List ℕ) → IsDotted text octets → IsUtf8 text
IsDotted-utf8 text octets h =
    let number : (n : ℕ) → n < 256 → IsAscii (decimal n) = λ n fits. IsAscii-decimal n (omega arith) in
    let more : (front : List ℕ) (n : ℕ) → n < 256 → IsAscii front → IsAscii (front ++ codes "." ++ decimal n) = λ front n fits k. IsAscii-append (front ++ codes ".") (decimal n) (IsAscii-append front (codes ".") k dot) (number n fits) in
    rw h.spelled (IsUtf8-from_ascii _ (more _ h.d h.fit.3 (more _ h.c h.fit.2 (more _ h.b h.fit.1 (number h.a h.fit.0)))))

length-dotted_text : (a b c d : ℕ) → a < 256 → b < 256 → c < 256 → d < 256 → length (dotted_text a b c d) ≤ 15
length-dotted_text a b c d ha hb hc hd =
    let number : (n : ℕ) → n < 256 → length (decimal n) ≤ 3 = λ n fits. length-decimal-le 3 n (omega arith) (omega arith) (omega arith) in
    omega (arith, number a ha, number b hb, number c hc, number d hd, length-append {A = ℕ})

pub IsDotted-not_long : (text octets bytes : List ℕ) → IsDotted text octets → ¬ (decode_sized text 16 ≡ Ok bytes)
IsDotted-not_long text octets bytes h long =
    let short = length-dotted_text h.a h.b h.c h.d h.fit.0 h.fit.1 h.fit.2 h.fit.3 in
    omega (arith, short, ap length h.spelled, decode_sized-ok text 16 bytes long)

pub IsDotted-unique : (text o p : List ℕ) → IsDotted text o → IsDotted text p → o ≡ p
IsDotted-unique text o p h k = (same_parts _ _ _ _ (sym (read_ipv4_complete text o [] h (lit≤ tt)) ∙ read_ipv4_complete text p [] k (lit≤ tt))).0

same_address : (a b : Address) → a.0 ≡ b.0 → a ≡ b
same_address a b e = λ i. record { 0 = e i }

pub IsDottedText-unique : (text : List ℕ) (a b : Address) → IsDottedText text a → IsDottedText text b → a ≡ b
IsDottedText-unique text a b h k = same_address a b (h.2 ∙ ap (λ o. v4_front ++ o) (IsDotted-unique text h.0 k.0 h.1 k.1) ∙ sym k.2)

pub IsLongText-unique : (text : List ℕ) (a b : Address) → IsLongText text a → IsLongText text b → a ≡ b
IsLongText-unique text a b h k = same_address a b (cc (sym h ∙ k))

pub IsColonText-unique : (text : List ℕ) (a b : Address) → IsColonText text a → IsColonText text b → a ≡ b
IsColonText-unique text a b h k = same_address a b (h.2 ∙ ap octets_of (IsColonHex-unique text h.0 k.0 h.1 k.1) ∙ sym k.2)

pub IsWideText-unique : (text : List ℕ) (a b : Address) → IsWideText text a → IsWideText text b → a ≡ b
IsWideText-unique text a b (inl h) (inl k) = IsLongText-unique text a b h k
IsWideText-unique text a b (inl h) (inr k) = absurd (IsColonHex-not_long text k.0 a.0 k.1 h)
IsWideText-unique text a b (inr h) (inl k) = absurd (IsColonHex-not_long text h.0 b.0 h.1 k)
IsWideText-unique text a b (inr h) (inr k) = IsColonText-unique text a b h k

pub IsDotted-not_wide : (text octets : List ℕ) (a : Address) → IsDotted text octets → ¬ (IsWideText text a)
IsDotted-not_wide text octets a h (inl k) = IsDotted-not_long text octets a.0 h k
IsDotted-not_wide text octets a h (inr k) = IsDotted-not_colon_hex text octets k.0 h k.1

pub IsAddressText-unique : (text : List ℕ) (a b : Address) → IsAddressText text a → IsAddressText text b → a ≡ b
IsAddressText-unique text a b (inl h) (inl k) = IsDottedText-unique text a b h k
IsAddressText-unique text a b (inl h) (inr k) = absurd (IsDotted-not_wide text h.0 b h.1 k)
IsAddressText-unique text a b (inr h) (inl k) = absurd (IsDotted-not_wide text k.0 a k.1 h)
IsAddressText-unique text a b (inr h) (inr k) = IsWideText-unique text a b h k

pub wide_only : (text : List ℕ) (o : Option Address) (e : NotAddress) (r : Result Address NotAddress) → r ≡ ok_or o e → IfSome o (IsWideText text)
    → IfOk r (λ a. (b : Address) → IsAddressText text b → b ≡ a)
wide_only text (Some a) e r same h = rw same (λ b k. IsAddressText-unique text b a k (inr h))
wide_only text None e r same h = rw same tt

pub wide_refused : (text : List ℕ) (o : Option Address) (e : NotAddress) (r : Result Address NotAddress) → r ≡ ok_or o e → ((a : Address) → ¬ (IsDottedText text a))
    → IfNone o ((a : Address) → ¬ (IsWideText text a)) → OnErr r ((a : Address) → ¬ (IsAddressText text a))
wide_refused text (Some a) e r same none h = rw same tt
wide_refused text None e r same none h = rw same (λ a k. elim k [ inl d ↦ none a d | inr w ↦ h a w ])

pub wide_none : (text : List ℕ) (o : Option Address) → ((a : Address) → ¬ (IsLongText text a)) → IfNone o ((a : Address) → ¬ (IsColonText text a))
    → IfNone o ((a : Address) → ¬ (IsWideText text a))
wide_none text (Some a) none h = tt
wide_none text None none h = λ a k. elim k [ inl l ↦ none a l | inr c ↦ h a c ]

front_is : (octets : List ℕ) → starts_with nat_eq octets v4_front ≡ true → octets ≡ v4_front ++ drop 12 octets
front_is octets h = sym (take-append-drop 12 octets) ∙ ap (λ front. front ++ drop 12 octets) (sym (same_text v4_front (take 12 octets) (sym h)))

-- each address has a text that writes it
pub IsAddressText-address_text : (a : Address) → length a.0 ≡ 16 → IsBytes a.0 → IsAddressText (address_text a) a
IsAddressText-address_text a sixteen bytes =
    elim (cases_Bool (starts_with nat_eq a.0 v4_front)) [
      | inl v4 ↦
          let four : length (drop 12 a.0) ≡ 4 = omega (arith, length-drop 12 a.0) in
          let fits : (k : ℕ) → get_or (drop 12 a.0) k 0 < 2 ^ 8 = λ k. rw (get_or-drop 12 a.0 k 0) (bytes (12 + k)) in
          rw v4 (inl (drop 12 a.0, IsDotted-ipv4_text (drop 12 a.0) four fits, front_is a.0 v4))
      | inr other ↦ rw other (inr (inl (decode_sized-encode_lower a.0 16 sixteen bytes)))
    ]
