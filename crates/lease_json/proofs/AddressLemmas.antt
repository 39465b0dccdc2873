-- The texts of addresses are UTF-8.
use Rattle.std.proofs.Common.{◌≡◌, inl, inr, ℕ, ◌<◌, List, [], true, codes, decimal, sym, subst, arith, Ok}
use Rattle.std.specs.Str.{IsAscii, IsUtf8}
use Rattle.std.specs.Net.Grammar.{IsDotted}
use Rattle.std.proofs.lemmas.Str.{IsAscii-append, IsUtf8-from_ascii}
use Rattle.std.proofs.lemmas.Str.Ascii.{IsAscii-from_all, IsAscii-nil, IsAscii-cons}
use Rattle.std.proofs.lemmas.Fmt.{IsAscii-decimal}
use Rattle.std.proofs.lemmas.List.Elements.{All-weaker}
use Rattle.hex.specs.Hex.{decode_sized, is_hex_digit}
use Rattle.hex.proofs.HexLemmas.{IsOk-decode_sized}
use Rattle.pcp_base.specs.AddressTexts.{IsAddressText}
use Rattle.pcp_base.specs.declared.addresses.Address.{Address}
use Rattle.pcp_base.proofs.ColonLemmas.{IsColonHex-utf8}

dot : IsAscii (codes ".")
dot = IsAscii-cons 46 [] (omega arith) IsAscii-nil

number : (n : ℕ) → n < 256 → IsAscii (decimal n)
number n fits = IsAscii-decimal n (omega (arith, fits))

dotted : (text octets : List ℕ) → IsDotted text octets → IsAscii text
dotted text octets h =
    let one = IsAscii-append _ _ (number h.a h.fit.0) dot in
    let two = IsAscii-append _ _ (IsAscii-append _ _ one (number h.b h.fit.1)) dot in
    let three = IsAscii-append _ _ (IsAscii-append _ _ two (number h.c h.fit.2)) dot in
    subst IsAscii (sym h.spelled) (IsAscii-append _ _ three (number h.d h.fit.3))

digit : (c : ℕ) → is_hex_digit c ≡ true → c < 128
digit c h = grind arith

long : (text : List ℕ) (a : Address) → decode_sized text 16 ≡ Ok a.0 → IsAscii text
long text a h =
    let digits = (IsOk-decode_sized text 16).0 (rw h (search arith)) in
    IsAscii-from_all text (All-weaker _ _ digit text digits.1)

pub IsUtf8-address : (text : List ℕ) (a : Address) → IsAddressText text a → IsUtf8 text
IsUtf8-address text a (inl h) = IsUtf8-from_ascii text (dotted text h.0 h.1)
IsUtf8-address text a (inr (inl h)) = IsUtf8-from_ascii text (long text a h)
IsUtf8-address text a (inr (inr h)) = IsColonHex-utf8 text h.0 h.1
