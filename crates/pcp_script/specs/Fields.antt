-- What a field of a script's line writes (our own).
use Rattle.std.specs.Prelude.{◌≡◌, ℕ, ◌≤◌, ◌<◌, ◌^◌, ◌⊎◌, List, [], length, codes, decimal, Ok, Some, slice_get}
use Rattle.hex.specs.Hex.{decode_of}
use Rattle.pcp_base.specs.AddressTexts.{IsAddressText}
use Rattle.pcp_base.specs.Protocols.{protocol_number}
use Rattle.pcp_base.specs.declared.configs.External.{External}
use Rattle.pcp_base.specs.declared.configs.TheConstants.{MOST_EXTERNALS}
use Rattle.pcp_base.specs.declared.leases.Protocol.{Protocol}

-- a decimal number of seconds below 2^40
abbrev pub IsMomentField : List ℕ → ℕ → Type 0
IsMomentField text moment = (text ≡ decimal moment) × (moment < 2 ^ 40)

-- a decimal number of at most 65535
abbrev pub IsPortField : List ℕ → ℕ → Type 0
IsPortField text port = (text ≡ decimal port) × (port < 2 ^ 16)

-- 6 or 17
abbrev pub IsProtocolField : List ℕ → Protocol → Type 0
IsProtocolField text protocol = text ≡ decimal (protocol_number protocol)

-- octets in hexadecimal digits of either case, at most 2,048; a dash for none
abbrev pub IsHexField : List ℕ → List ℕ → Type 0
IsHexField text octets = ((text ≡ codes "-") × (octets ≡ []))
    ⊎ ((0 < length octets) × (length octets ≤ 2048) × (decode_of text ≡ Ok octets))

-- the text writes the external address that has this index, in any of the address's texts
pub record IsExternalField (externals : List External) (text : List ℕ) (shard : ℕ) : Type 0 where
  pub external : External
  pub place : slice_get externals shard ≡ Some external
  pub few : shard < MOST_EXTERNALS
  pub address : IsAddressText text external.address
