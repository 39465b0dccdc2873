-- Which external address an internal one is paired with (our own).
use Rattle.std.specs.Prelude.{ℕ, ◌-◌, ◌^◌, ◌/◌, ◌==◌, Bool, List, [], ◌∷◌, ◌++◌, Option, find}
use Rattle.std.specs.Option.{option_map}
use Rattle.std.specs.Int.{from_be_bytes, w128}
use Rattle.pcp_base.specs.declared.addresses.Address.{Address}
use Rattle.pcp_base.specs.declared.addresses.Prefix.{Prefix}
use Rattle.pcp_base.specs.declared.configs.Subscriber.{Subscriber}
use Rattle.pcp_base.specs.AddressTexts.{v4_front}

-- the 16 octets of the IPv4 address a.b.c.d (RFC 6887, section 5)
abbrev pub v4_octets : ℕ → ℕ → ℕ → ℕ → List ℕ
v4_octets a b c d = v4_front ++ a ∷ b ∷ c ∷ d ∷ []

-- the first bits of an address, as a number
abbrev pub leading : ℕ → Address → ℕ
leading bits a = from_be_bytes w128 a.0 / 2 ^ (128 - bits)

-- whether the first bits of both addresses are equal
abbrev pub holds : Prefix → Address → Bool
holds p a = leading p.bits p.address == leading p.bits a

-- the external index of the first subscriber row whose prefix holds the address
abbrev pub place_of : List Subscriber → Address → Option ℕ
place_of rows a = option_map (λ row. row.external) (find (λ row. holds row.prefix a) rows)
