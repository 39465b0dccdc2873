-- A request up to its options, by cases on its opcode, apart from reading and from writing (RFC 6887,
-- sections 7, 7.1, 11.1, 12.1 and 14.1). Reserved octets are any.
use Rattle.std.specs.Prelude.{◌≡◌, ℕ, ◌+◌, ◌%◌, ◌^◌, ◌<◌, ◌≤◌, List, [], ◌∷◌, ◌++◌, length}
use Rattle.std.specs.Int.{to_be_bytes, w16, w32}
use Rattle.pcp_base.specs.declared.addresses.Address.{Address}
use Rattle.pcp_codec.specs.declared.layout.TheConstants.{VERSION, ANNOUNCE_OPCODE, MAP_OPCODE, PEER_OPCODE, HEAD_OCTETS, MESSAGE_OCTETS}
use Rattle.pcp_codec.specs.declared.requests.Common.{Common}
use Rattle.pcp_codec.specs.declared.requests.Body.{Body}
use Rattle.pcp_codec.specs.declared.requests.Body.TheVariants.{Announce, Map, Peer}
use Rattle.pcp_codec.specs.declared.requests.Frame.{Frame}

-- MAP (section 11.1): nonce, protocol, 3 reserved octets, internal port, external port, external address
pub record IsCommon (fields : List ℕ) (c : Common) : Type 0 where
  pub reserved : List ℕ
  pub three : length reserved ≡ 3
  pub spelled : fields ≡ c.nonce.0 ++ c.protocol ∷ reserved
      ++ to_be_bytes w16 c.internal ++ to_be_bytes w16 c.external ++ c.address.0
  pub lengths : (length c.nonce.0 ≡ 12) × (length c.address.0 ≡ 16)
  pub ports_fit : (c.internal < 2 ^ 16) × (c.external < 2 ^ 16)

-- PEER (section 12.1): the same, and then remote port, 2 reserved octets, remote address
pub record IsPeerData (fields : List ℕ) (c : Common) (port : ℕ) (remote : Address) : Type 0 where
  pub front : List ℕ
  pub common : IsCommon front c
  pub reserved : List ℕ
  pub two : length reserved ≡ 2
  pub spelled : fields ≡ front ++ to_be_bytes w16 port ++ reserved ++ remote.0
  pub sixteen : length remote.0 ≡ 16
  pub port_fits : port < 2 ^ 16

-- the data of an opcode; ANNOUNCE has none (section 14.1)
abbrev pub IsData : ℕ → List ℕ → Body → Type 0
IsData opcode fields Announce = (opcode ≡ ANNOUNCE_OPCODE) × (fields ≡ [])
IsData opcode fields (Map c) = (opcode ≡ MAP_OPCODE) × IsCommon fields c
IsData opcode fields (Peer c port remote) = (opcode ≡ PEER_OPCODE) × IsPeerData fields c port remote

-- version 2, the R bit 0 with the opcode, 2 reserved octets, lifetime, client address, data, options
-- (section 7.1), in whole words and at most 1100 octets (section 7)
pub record IsRequest (message : List ℕ) (client : Address) (frame : Frame) (options : List ℕ) : Type 0 where
  pub reserved : List ℕ
  pub two : length reserved ≡ 2
  pub fields : List ℕ
  pub spelled : message ≡ VERSION ∷ frame.opcode ∷ reserved ++ to_be_bytes w32 frame.lifetime
      ++ client.0 ++ fields ++ options
  pub body : IsData frame.opcode fields frame.body
  pub place : frame.options ≡ HEAD_OCTETS + length fields
  pub sixteen : length client.0 ≡ 16
  pub lifetime_fits : frame.lifetime < 2 ^ 32
  pub words : length message % 4 ≡ 0
  pub most : length message ≤ MESSAGE_OCTETS
