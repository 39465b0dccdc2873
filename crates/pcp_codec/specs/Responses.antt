-- The head of a response, by spelling it, and as it stands in octets (RFC 6887, sections 7, 7.2 and 7.4).
use Rattle.std.specs.Prelude.{◌≡◌, ℕ, ◌+◌, ◌%◌, ◌^◌, ◌<◌, ◌≤◌, ◌==◌, ◌&&◌, nat_le, Bool, List, ◌∷◌, ◌++◌, length, Option, None, option_map, slice_get, if◌then◌else◌}
use Rattle.std.specs.Int.{to_be_bytes, w32}
use Rattle.pcp_base.specs.declared.codes.Code.{Code}
use Rattle.pcp_base.specs.Codes.{code_number}
use Rattle.pcp_codec.specs.declared.layout.TheConstants.{VERSION, R_BIT, PEER_OPCODE, MESSAGE_OCTETS, HEAD_OCTETS, CODE_PLACE, LIFETIME_PLACE, EPOCH_PLACE}
use Rattle.pcp_codec.specs.declared.responses.TheConstants.{CODES}
use Rattle.pcp_codec.specs.declared.responses.Head.{Head}
use Rattle.pcp_codec.specs.Fields.{octet, u32_at}
use Rattle.pcp_codec.specs.Requests.{opcode_of, data_length}

-- Version 2, the R bit with an opcode, a reserved octet, a code, lifetime, epoch, 12 octets of any value, and what
-- stands behind, which has room for the opcode's data; in whole words and at most 1100 octets.
pub record IsResponseHead (message : List ℕ) (head : Head) : Type 0 where
  pub reserved : ℕ
  pub last : List ℕ
  pub twelve : length last ≡ 12
  pub behind : List ℕ
  pub spelled : message ≡ VERSION ∷ (R_BIT + head.opcode) ∷ reserved ∷ code_number head.code
      ∷ to_be_bytes w32 head.lifetime ++ to_be_bytes w32 head.epoch ++ last ++ behind
  pub opcode : head.opcode ≤ PEER_OPCODE
  pub room : data_length head.opcode ≤ length behind
  pub numbers_fit : (head.lifetime < 2 ^ 32) × (head.epoch < 2 ^ 32)
  pub words : length message % 4 ≡ 0
  pub most : length message ≤ MESSAGE_OCTETS

-- the code that has this number
abbrev pub code_of : ℕ → Option Code
code_of number = slice_get CODES number

-- whether octets are those of a response, but for its code
abbrev pub is_framed : List ℕ → Bool
is_framed message =
    nat_le HEAD_OCTETS (length message) && nat_le (length message) MESSAGE_OCTETS
    && length message % 4 == 0 && octet message 0 == VERSION && nat_le R_BIT (octet message 1)
    && nat_le (opcode_of message) PEER_OPCODE
    && nat_le (HEAD_OCTETS + data_length (opcode_of message)) (length message)

abbrev pub head_with : List ℕ → Code → Head
head_with message code = record {
  opcode = opcode_of message;
  code = code;
  lifetime = u32_at message LIFETIME_PLACE;
  epoch = u32_at message EPOCH_PLACE;
}

-- the head that stands in octets, none where they are no response
abbrev pub head_of : List ℕ → Option Head
head_of message =
    if is_framed message then option_map (head_with message) (code_of (octet message CODE_PLACE))
    else None
