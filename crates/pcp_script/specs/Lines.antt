-- The lines of a script (our own).
use Rattle.std.specs.Prelude.{◌≡◌, ℕ, ◌<◌, ◌≤◌, ◌⊎◌, List, [], ◌∷◌, length, codes, Some, slice_get, ⊤}
use Rattle.std.specs.List.{AllByRecursion}
use Rattle.pcp_base.specs.AddressTexts.{IsAddressText}
use Rattle.pcp_base.specs.declared.addresses.Address.{Address}
use Rattle.pcp_base.specs.declared.configs.External.{External}
use Rattle.pcp_base.specs.declared.datagrams.Datagram.{Datagram}
use Rattle.pcp_base.specs.declared.leases.Protocol.{Protocol}
use Rattle.pcp_script.specs.Fields.{IsMomentField, IsPortField, IsProtocolField, IsHexField, IsExternalField}
use Rattle.pcp_script.specs.Words.{spaced}
use Rattle.pcp_script.specs.declared.lines.TheConstants.{LONGEST_LINE}
use Rattle.pcp_script.specs.declared.lines.Line.{Line}
use Rattle.pcp_script.specs.declared.lines.Line.TheVariants.{Skip, Packet, Look, Lose, Owners}

-- packet MOMENT ADDRESS PORT HEX, a datagram that comes by door 0
pub record IsPacket (fields : List (List ℕ)) (moment : ℕ) (from : Datagram) : Type 0 where
  pub moment_text : List ℕ
  pub peer_text : List ℕ
  pub port_text : List ℕ
  pub hex_text : List ℕ
  pub fields_are : fields ≡ codes "packet" ∷ moment_text ∷ peer_text ∷ port_text ∷ hex_text ∷ []
  pub moment_is : IsMomentField moment_text moment
  pub peer_is : IsAddressText peer_text from.peer
  pub port_is : IsPortField port_text from.port
  pub door_is : from.door ≡ 0
  pub octets_are : IsHexField hex_text from.octets

-- look MOMENT EXTERNAL PROTOCOL PORT REMOTE REMOTEPORT
pub record IsLook (externals : List External) (fields : List (List ℕ)) (moment shard : ℕ)
    (protocol : Protocol)
    (port : ℕ) (remote : Address) (remote_port : ℕ) : Type 0 where
  pub moment_text : List ℕ
  pub external_text : List ℕ
  pub protocol_text : List ℕ
  pub port_text : List ℕ
  pub remote_text : List ℕ
  pub remote_port_text : List ℕ
  pub fields_are : fields ≡ codes "look" ∷ moment_text ∷ external_text ∷ protocol_text ∷ port_text
      ∷ remote_text ∷ remote_port_text ∷ []
  pub moment_is : IsMomentField moment_text moment
  pub shard_is : IsExternalField externals external_text shard
  pub protocol_is : IsProtocolField protocol_text protocol
  pub port_is : IsPortField port_text port × (0 < port)
  pub remote_is : IsAddressText remote_text remote
  pub remote_port_is : IsPortField remote_port_text remote_port

-- the word MOMENT EXTERNAL
pub record IsEvent (word : List ℕ) (externals : List External) (fields : List (List ℕ))
    (moment shard : ℕ) : Type 0 where
  pub moment_text : List ℕ
  pub external_text : List ℕ
  pub fields_are : fields ≡ word ∷ moment_text ∷ external_text ∷ []
  pub moment_is : IsMomentField moment_text moment
  pub shard_is : IsExternalField externals external_text shard

-- the fields stand for the line
abbrev pub StandsFor : List External → List (List ℕ) → Line → Type 0
StandsFor externals fields Skip = ⊥
StandsFor externals fields (Packet moment from) = IsPacket fields moment from
StandsFor externals fields (Look moment shard protocol port remote remote_port) =
    IsLook externals fields moment shard protocol port remote remote_port
StandsFor externals fields (Lose moment shard) = IsEvent (codes "lose") externals fields moment shard
StandsFor externals fields (Owners moment shard) = IsEvent (codes "owners") externals fields moment shard

-- the text stands for the line, but for its length: nothing, a comment behind a number sign, or fields
abbrev pub IsTextOfLine : List External → List ℕ → Line → Type 0
IsTextOfLine externals text Skip = (text ≡ []) ⊎ (slice_get text 0 ≡ Some 35)
IsTextOfLine externals text line =
    (fields : List (List ℕ)) × (text ≡ spaced fields) × StandsFor externals fields line

-- the text of a line stands for it
pub record IsLine (externals : List External) (text : List ℕ) (line : Line) : Type 0 where
  pub short : length text ≤ LONGEST_LINE
  pub written : IsTextOfLine externals text line

-- each octet of a packet's datagram is one
abbrev pub HasOctets : Line → Type 0
HasOctets (Packet moment from) = AllByRecursion (λ x. x < 256) from.octets
HasOctets line = ⊤
