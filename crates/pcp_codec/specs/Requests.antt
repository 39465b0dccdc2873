-- A request and its fields, by cases on its opcode (RFC 6887, sections 7.1, 11.1, 12.1 and 14.1).
use Rattle.std.specs.Prelude.{ℕ, ◌+◌, ◌%◌, ◌==◌, List, if◌then◌else◌}
use Rattle.pcp_codec.specs.declared.layout.TheConstants.{R_BIT, ANNOUNCE_OPCODE, MAP_OPCODE, HEAD_OCTETS, MAP_OCTETS, PEER_OCTETS, LIFETIME_PLACE, NONCE_PLACE, PROTOCOL_PLACE, INTERNAL_PLACE, EXTERNAL_PLACE, ADDRESS_PLACE, REMOTE_PORT_PLACE, REMOTE_PLACE}
use Rattle.pcp_codec.specs.declared.requests.Common.{Common}
use Rattle.pcp_codec.specs.declared.requests.Body.{Body}
use Rattle.pcp_codec.specs.declared.requests.Body.TheVariants.{Announce, Map, Peer}
use Rattle.pcp_codec.specs.declared.requests.Frame.{Frame}
use Rattle.pcp_codec.specs.Fields.{octet, octets_at, u16_at, u32_at}

-- the seven bits after the R bit
abbrev pub opcode_of : List ℕ → ℕ
opcode_of message = octet message 1 % R_BIT

-- how many octets of data follow the header: none for ANNOUNCE
abbrev pub data_length : ℕ → ℕ
data_length opcode =
    if opcode == ANNOUNCE_OPCODE then 0 else if opcode == MAP_OPCODE then MAP_OCTETS else PEER_OCTETS

-- the data that MAP and PEER share
abbrev pub common_of : List ℕ → Common
common_of message = record {
  nonce = record { 0 = octets_at message NONCE_PLACE 12 };
  protocol = octet message PROTOCOL_PLACE;
  internal = u16_at message INTERNAL_PLACE;
  external = u16_at message EXTERNAL_PLACE;
  address = record { 0 = octets_at message ADDRESS_PLACE 16 };
}

abbrev pub body_of : List ℕ → Body
body_of message =
    if opcode_of message == ANNOUNCE_OPCODE then Announce
    else if opcode_of message == MAP_OPCODE then Map (common_of message)
    else Peer (common_of message) (u16_at message REMOTE_PORT_PLACE)
    (record { 0 = octets_at message REMOTE_PLACE 16 })

-- what a whole request says, but for its options
abbrev pub frame_of : List ℕ → Frame
frame_of message = record {
  opcode = opcode_of message;
  lifetime = u32_at message LIFETIME_PLACE;
  body = body_of message;
  options = HEAD_OCTETS + data_length (opcode_of message);
}
