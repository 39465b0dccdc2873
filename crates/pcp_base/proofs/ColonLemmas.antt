-- What a text of an address with colons is made of: hexadecimal digits, dots and colons, and one colon at least.
use Rattle.std.proofs.Common.{◌≡◌, ℕ, zero, suc, ◌<◌, ◌^◌, ◌⊎◌, Bool, true, false, inl, inr, List, [], ◌∷◌, ◌++◌, length, get_or, codes, All, refl, ap, ◌∙◌, arith, append_assoc, Ok}
use Rattle.std.specs.Char.{digit_value}
use Rattle.std.specs.Int.{IsInRange}
use Rattle.std.specs.Str.{IsUtf8}
use Rattle.std.specs.Str.Parse.{AllDigits}
use Rattle.std.specs.Net.Addr.{segments_of}
use Rattle.std.specs.Net.Grammar.{IsDotted, IsGroupsAfter, IsColonHex}
use Rattle.std.specs.declared.net.ipv6_addr.Ipv6Addr.{Ipv6Addr}
use Rattle.std.proofs.lemmas.Bool.Decides.{nat_tests}
use Rattle.std.proofs.lemmas.List.Elements.{All-nil, All-cons, All-append, All-weaker, All-head, All-tail}
use Rattle.std.proofs.lemmas.Str.{IsUtf8-from_ascii}
use Rattle.std.proofs.lemmas.Str.Ascii.{IsAscii-from_all}
use Rattle.std.proofs.NetLemmas.Alphabet.{IsDigitOrDot, All-ipv4_text}
use Rattle.std.proofs.NetLemmas.Theorems.{IsIpv6Text_unique}
use Rattle.hex.specs.Hex.{is_hex_digit, decode_sized}
use Rattle.hex.proofs.HexLemmas.{IsOk-decode_sized}

-- `.`, a digit, `:`, which follows the digits in ASCII, or a letter up to `F`, of either case
abbrev pub IsColonOctet : ℕ → Type 0
IsColonOctet c = (c ≡ 46) ⊎ (IsInRange 48 58 c ⊎ (IsInRange 65 70 c ⊎ IsInRange 97 102 c))

hex_octet : (c : ℕ) → digit_value c < 16 → IsColonOctet c
hex_octet c h = grind (arith, nat_tests)

decimal_octet : (c : ℕ) → IsDigitOrDot c → IsColonOctet c
decimal_octet c (inl digit) = inr (inl (omega (arith, digit)))
decimal_octet c (inr dot) = inl dot

colon : IsColonOctet 58
colon = inr (inl (omega arith))

All-group : (text : List ℕ) → AllDigits 16 text → All IsColonOctet text
All-group [] h = All-nil IsColonOctet
All-group (c ∷ text) h = All-cons IsColonOctet c text (hex_octet c h.0) (All-group text h.1)

pub four_fit : (a b c d : ℕ) → a < 256 → b < 256 → c < 256 → d < 256 → (k : ℕ) → get_or (a ∷ b ∷ c ∷ d ∷ []) k 0 < 2 ^ 8
four_fit a b c d ha hb hc hd zero = ha
four_fit a b c d ha hb hc hd (suc zero) = hb
four_fit a b c d ha hb hc hd (suc (suc zero)) = hc
four_fit a b c d ha hb hc hd (suc (suc (suc zero))) = hd
four_fit a b c d ha hb hc hd (suc (suc (suc (suc k)))) = omega arith

All-dotted : (text octets : List ℕ) → IsDotted text octets → All IsColonOctet text
All-dotted text octets d =
    let fits = four_fit d.a d.b d.c d.d d.fit.0 d.fit.1 d.fit.2 d.fit.3 in
    rw d.spelled (All-weaker IsDigitOrDot IsColonOctet decimal_octet _ (All-ipv4_text (d.a ∷ d.b ∷ d.c ∷ d.d ∷ []) fits))

All-groups : (ipv4 : Bool) (lead text groups : List ℕ) → All IsColonOctet lead → IsGroupsAfter ipv4 lead text groups → All IsColonOctet text
All-groups ipv4 lead text [] led h = rw h (All-nil IsColonOctet)
All-groups ipv4 lead text (s ∷ groups) led (inl h) =
    let more = All-groups ipv4 (codes ":") h.1 groups (All-cons IsColonOctet 58 [] colon (All-nil IsColonOctet)) h.4 in
    let first = All-append IsColonOctet lead h.0 led (All-group h.0 h.3.0.0.1) in
    rw h.2 (All-append IsColonOctet (lead ++ h.0) h.1 first more)
All-groups ipv4 lead text (s ∷ groups) led (inr h) =
    rw h.3 (All-append IsColonOctet lead h.0 led (All-dotted h.0 h.1 h.4))

-- a text of an IPv6 address has these octets alone
pub All-colon_hex : (text groups : List ℕ) → IsColonHex text groups → All IsColonOctet text
All-colon_hex text groups (inl h) = All-groups true [] text groups (All-nil IsColonOctet) h.0
All-colon_hex text groups (inr h) =
    let nothing = All-nil IsColonOctet in
    let two = All-cons IsColonOctet 58 (58 ∷ []) colon (All-cons IsColonOctet 58 [] colon nothing) in
    let front = All-append IsColonOctet h.head_text (codes "::") (All-groups false [] h.head_text h.head nothing h.head_groups) two in
    rw h.spelled (All-append IsColonOctet (h.head_text ++ codes "::") h.tail_text front (All-groups true [] h.tail_text h.tail nothing h.tail_groups))

low_octet : (c : ℕ) → IsColonOctet c → c < 128
low_octet c (inl h) = omega (arith, h)
low_octet c (inr (inl h)) = omega (arith, h)
low_octet c (inr (inr (inl h))) = omega (arith, h)
low_octet c (inr (inr (inr h))) = omega (arith, h)

pub IsColonHex-utf8 : (text groups : List ℕ) → IsColonHex text groups → IsUtf8 text
IsColonHex-utf8 text groups h =
    IsUtf8-from_ascii text (IsAscii-from_all text (All-weaker IsColonOctet (λ c. c < 128) low_octet text (All-colon_hex text groups h)))

-- what stands before the first colon and behind it
abbrev HasColon : List ℕ → Type 0
HasColon text = (front back : List ℕ) × (text ≡ front ++ 58 ∷ back)

length-segments_of : (text octets : List ℕ) → IsDotted text octets → length (segments_of octets) ≡ 2
length-segments_of text octets h = ap (λ o. length (segments_of o)) h.value

HasColon-groups : (text : List ℕ) (s t : ℕ) (groups : List ℕ) → 0 < length groups → IsGroupsAfter true [] text (s ∷ t ∷ groups) → HasColon text
HasColon-groups text s t groups more (inl (group, rest, split, is_group, inl h)) =
    (group, h.0 ++ h.1, split ∙ ap (λ r. group ++ r) (h.2 ∙ append_assoc (codes ":") h.0 h.1))
HasColon-groups text s t groups more (inl (group, rest, split, is_group, inr h)) = (group, h.0, split ∙ ap (λ r. group ++ r) h.3)
HasColon-groups text s t groups more (inr h) = absurd (omega (arith, more, ap length h.5, length-segments_of h.0 h.1 h.4))

HasColon-colon_hex : (text groups : List ℕ) → IsColonHex text groups → HasColon text
HasColon-colon_hex text [] (inl h) = absurd (omega (arith, h.1))
HasColon-colon_hex text (s ∷ []) (inl h) = absurd (omega (arith, h.1))
HasColon-colon_hex text (s ∷ t ∷ groups) (inl h) = HasColon-groups text s t groups (omega (arith, h.1)) h.0
HasColon-colon_hex text groups (inr h) = (h.head_text, 58 ∷ h.tail_text, h.spelled ∙ append_assoc h.head_text (58 ∷ 58 ∷ []) h.tail_text)

digit_behind : (front back : List ℕ) (c : ℕ) → All (λ x. is_hex_digit x ≡ true) (front ++ c ∷ back) → is_hex_digit c ≡ true
digit_behind [] back c h = All-head (λ x. is_hex_digit x ≡ true) c back h
digit_behind (x ∷ front) back c h = digit_behind front back c (All-tail (λ x. is_hex_digit x ≡ true) x (front ++ c ∷ back) h)

-- 32 hexadecimal digits have no colon
pub IsColonHex-not_long : (text groups bytes : List ℕ) → IsColonHex text groups → ¬ (decode_sized text 16 ≡ Ok bytes)
IsColonHex-not_long text groups bytes h long =
    let (front, back, split) = HasColon-colon_hex text groups h in
    let digits = ((IsOk-decode_sized text 16).0 (rw long refl)).1 in
    let at_colon = digit_behind front back 58 (rw split at digits) in
    cc at_colon

pub IsColonHex-unique : (text m n : List ℕ) → IsColonHex text m → IsColonHex text n → m ≡ n
IsColonHex-unique text m n h k = ap (λ (a : Ipv6Addr). a.segments) (IsIpv6Text_unique text (record { segments = m }) (record { segments = n }) h k)
