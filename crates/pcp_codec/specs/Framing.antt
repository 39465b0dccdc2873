-- The first five steps of the verdict on a datagram (RFC 6887, section 8.2; their order is our own).
use Rattle.std.specs.Prelude.{ℕ, ◌+◌, ◌%◌, ◌==◌, ◌&&◌, ◌||◌, nat_lt, nat_le, not, Bool, bytes_eq, List, [], ◌∷◌, length, Option, Some, None, if◌then◌else◌}
use Rattle.pcp_base.specs.declared.addresses.Address.{Address}
use Rattle.pcp_base.specs.declared.codes.Code.TheVariants.{UnsuppVersion, MalformedRequest, UnsuppOpcode, AddressMismatch}
use Rattle.pcp_base.specs.declared.asks.Refusal.{Refusal}
use Rattle.pcp_base.specs.Cases.{Case, first_case}
use Rattle.pcp_base.specs.Refusals.{unparsed}
use Rattle.pcp_codec.specs.declared.layout.TheConstants.{VERSION, R_BIT, MAP_OPCODE, PEER_OPCODE, MESSAGE_OCTETS, HEAD_OCTETS, MAP_OCTETS, CLIENT_PLACE}
use Rattle.pcp_codec.specs.declared.requests.Frame.{Frame}
use Rattle.pcp_codec.specs.declared.requests.Framed.{Framed}
use Rattle.pcp_codec.specs.declared.requests.Framed.TheVariants.{Silent, Refuse, Whole}
use Rattle.pcp_codec.specs.Fields.{octet, octets_at}
use Rattle.pcp_codec.specs.Requests.{opcode_of, data_length, frame_of}

-- A datagram that gets no reply: it is too short, it is a response, or its head of version 2 isn't whole.
abbrev pub is_silent : List ℕ → Bool
is_silent message = nat_lt (length message) 2 || nat_le R_BIT (octet message 1)
    || (octet message 0 == VERSION && nat_lt (length message) HEAD_OCTETS)

-- whether a request has too many octets, or no whole words (section 7)
abbrev pub is_of_wrong_size : List ℕ → Bool
is_of_wrong_size message = nat_lt MESSAGE_OCTETS (length message) || not (length message % 4 == 0)

-- whether the opcode's data isn't whole
abbrev pub lacks_data : List ℕ → Bool
lacks_data message = nat_lt (length message) (HEAD_OCTETS + data_length (opcode_of message))

-- whether the client address isn't the address that the datagram came from (section 8.2)
abbrev pub is_from_another : List ℕ → Address → Bool
is_from_another message source = not (bytes_eq (octets_at message CLIENT_PLACE 16) source.0)

-- the steps that need no options, in order
abbrev pub frame_steps : List ℕ → Address → List (Case Refusal)
frame_steps message source =
    (record { applies = not (octet message 0 == VERSION); result = unparsed UnsuppVersion })
    ∷ (record { applies = is_of_wrong_size message; result = unparsed MalformedRequest })
    ∷ (record { applies = nat_lt PEER_OPCODE (opcode_of message); result = unparsed UnsuppOpcode })
    ∷ (record { applies = lacks_data message; result = unparsed MalformedRequest })
    ∷ (record { applies = is_from_another message source; result = unparsed AddressMismatch })
    ∷ []

-- the frame, unless a step refuses the request
abbrev pub framed_unless : Option Refusal → Frame → Framed
framed_unless None frame = Whole frame
framed_unless (Some refusal) frame = Refuse refusal

-- what a datagram is before its options are read
abbrev pub reading_of : List ℕ → Address → Framed
reading_of message source =
    if is_silent message then Silent
    else framed_unless (first_case (frame_steps message source)) (frame_of message)

-- a MAP request without options that none of the five steps refuses
abbrev pub is_plain_map : List ℕ → Address → Bool
is_plain_map message source =
    length message == HEAD_OCTETS + MAP_OCTETS && octet message 0 == VERSION
    && octet message 1 == MAP_OPCODE && not (is_from_another message source)
