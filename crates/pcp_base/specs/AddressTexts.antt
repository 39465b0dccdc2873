-- The texts of addresses and prefixes (our own; the dotted form is that of RFC 6943, section 3.1.1, the
-- one with colons that of RFC 4291, section 2.2).
use Rattle.std.specs.Prelude.{◌≡◌, ℕ, ◌+◌, ◌≤◌, ◌⊎◌, List, [], ◌∷◌, ◌++◌, replicate, drop, codes, decimal, if◌then◌else◌, nat_eq, Ok}
use Rattle.std.specs.List.{starts_with}
use Rattle.std.specs.Net.Addr.{octets_of}
use Rattle.std.specs.Net.Grammar.{IsDotted, IsColonHex}
use Rattle.std.specs.Net.Text.{ipv4_text}
use Rattle.hex.specs.Hex.{decode_sized, encode_lower}
use Rattle.pcp_base.specs.declared.addresses.Address.{Address}
use Rattle.pcp_base.specs.declared.addresses.Prefix.{Prefix}

-- what an IPv4 address begins with (RFC 6887, section 5)
abbrev pub v4_front : List ℕ
v4_front = replicate 10 0 ++ 255 ∷ 255 ∷ []

-- four decimal numbers of at most 255, without leading zeros and with dots between them
abbrev pub IsDottedText : List ℕ → Address → Type 0
IsDottedText text a = (octets : List ℕ) × IsDotted text octets × (a.0 ≡ v4_front ++ octets)

-- exactly 32 hexadecimal digits, of either case
abbrev pub IsLongText : List ℕ → Address → Type 0
IsLongText text a = decode_sized text 16 ≡ Ok a.0

-- groups of at most four hexadecimal digits with colons between them, `::` for groups of zeros at most
-- once, and at the end the last four octets dotted, if so wished
abbrev pub IsColonText : List ℕ → Address → Type 0
IsColonText text a = (groups : List ℕ) × IsColonHex text groups × (a.0 ≡ octets_of groups)

-- the text tells all 128 bits
abbrev pub IsWideText : List ℕ → Address → Type 0
IsWideText text a = IsLongText text a ⊎ IsColonText text a

-- the text writes this address
abbrev pub IsAddressText : List ℕ → Address → Type 0
IsAddressText text a = IsDottedText text a ⊎ IsWideText text a

-- an address, a slash, and how many bits of it count: a dotted address stands for 96 more
abbrev pub IsPrefixText : List ℕ → Prefix → Type 0
IsPrefixText text p =
    (front : List ℕ) × (bits : ℕ) × (text ≡ front ++ codes "/" ++ decimal bits)
    × ((IsDottedText front p.address × (bits ≤ 32) × (p.bits ≡ 96 + bits))
    ⊎ (IsWideText front p.address × (bits ≤ 128) × (p.bits ≡ bits)))

-- how an address is printed: an IPv4 address dotted, any other as 32 lower-case digits
abbrev pub address_text : Address → List ℕ
address_text a = if starts_with nat_eq a.0 v4_front then ipv4_text (drop 12 a.0) else encode_lower a.0
