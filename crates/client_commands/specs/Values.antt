-- What the values of options stand for (our own). Numbers are decimal, without a sign or a leading zero.
use Rattle.std.specs.Prelude.{◌≡◌, ℕ, ◌≤◌, Bool, false, List, Option, Some, None, codes, decimal}
use Rattle.std.specs.Option.{option_map_or}
use Rattle.std.specs.Str.{bytes_eq}
use Rattle.pcp_base.specs.AddressTexts.{IsAddressText}
use Rattle.pcp_base.specs.declared.addresses.Address.{Address}
use Rattle.pcp_base.specs.declared.leases.Protocol.{Protocol}
use Rattle.pcp_base.specs.declared.leases.Protocol.TheVariants.{Tcp, Udp}

-- an address that is given
abbrev pub IsAddressAt : Option (List ℕ) → Address → Type 0
IsAddressAt None address = ⊥
IsAddressAt (Some text) address = IsAddressText text address

abbrev pub protocol_text : Protocol → List ℕ
protocol_text Tcp = codes "tcp"
protocol_text Udp = codes "udp"

-- a protocol that is given
abbrev pub IsProtocolAt : Option (List ℕ) → Protocol → Type 0
IsProtocolAt given protocol = given ≡ Some (protocol_text protocol)

-- what a number may be, and what it is where none is given; none where one must be
pub record NumberRange : Type 0 where
  pub default : Option ℕ
  pub low : ℕ
  pub high : ℕ

-- a number in a range, in decimal
abbrev pub IsNumberText : (low high : ℕ) → List ℕ → ℕ → Type 0
IsNumberText low high text n = (text ≡ decimal n) × (low ≤ n) × (n ≤ high)

-- a number that is given, in its range, or its default
abbrev pub IsNumberAt : NumberRange → Option (List ℕ) → ℕ → Type 0
IsNumberAt range None n = range.default ≡ Some n
IsNumberAt range (Some text) n = IsNumberText range.low range.high text n

-- whether a flag is given
abbrev pub flag_at : Option (List ℕ) → Bool
flag_at given = option_map_or (λ text. bytes_eq text (codes "true")) given false
