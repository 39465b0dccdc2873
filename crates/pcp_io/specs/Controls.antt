-- Orders that come from the host itself (our own).
use Rattle.std.specs.Prelude.{◌≡◌, ℕ, ◌⊎◌, List, ◌∷◌, ◌++◌, codes}
use Rattle.pcp_base.specs.declared.addresses.Address.{Address}
use Rattle.pcp_base.specs.Pairing.{v4_octets}
use Rattle.pcp_base.specs.AddressTexts.{IsAddressText}
use Rattle.pcp_io.specs.declared.inboxes.Incoming.{Incoming}
use Rattle.pcp_io.specs.declared.inboxes.Incoming.TheVariants as Incomings

-- The door of orders is 255: the socket at 127.0.0.1. No datagram of another door is one, whatever its
-- source.
abbrev pub order_door : ℕ
order_door = 255

-- a datagram of 127.0.0.1 by the door of orders is one where its first octet is `ff`; behind that stands
-- its text
abbrev pub IsOrder : ℕ → Address → List ℕ → List ℕ → Type 0
IsOrder door peer octets text =
    (door ≡ order_door) × (peer.0 ≡ v4_octets 127 0 0 1) × (octets ≡ 255 ∷ text)

-- what the text of an order says
abbrev pub Says : List ℕ → Incoming → Type 0
Says text (Incomings.Packet peer port door n) = ⊥
Says text (Incomings.Lose order address) = (order ≡ 0)
    × ((behind : List ℕ) × (text ≡ codes "lose " ++ behind) × IsAddressText behind address)
Says text (Incomings.Status order) = ⊥
Says text Incomings.Quiet = ⊥
Says text Incomings.Stop = text ≡ codes "stop"

-- the text says this alone, or nothing at all where this is a quiet
pub record IsSaid (text : List ℕ) (incoming : Incoming) : Type 0 where
  pub said : Says text incoming ⊎ (incoming ≡ Incomings.Quiet)
  pub only : (other : Incoming) → Says text other → other ≡ incoming
