-- A response as it stands in octets (RFC 6887, sections 7.2, 7.3 and 8.3).
use Rattle.std.specs.Prelude.{◌≡◌, ℕ, ◌+◌, ◌==◌, ◌&&◌, ◌||◌, nat_le, not, Bool, true, false, List, [], ◌∷◌, length, drop, count_by, Option, Some, None, is_some, Result, Ok, Err, if◌then◌else◌, ⊤}
use Rattle.pcp_base.specs.Codes.{code_number}
use Rattle.pcp_base.specs.Protocols.{protocol_of}
use Rattle.pcp_codec.specs.declared.layout.TheConstants.{HEAD_OCTETS}
use Rattle.pcp_codec.specs.declared.requests.Common.{Common}
use Rattle.pcp_codec.specs.declared.requests.Body.{Body}
use Rattle.pcp_codec.specs.declared.requests.Body.TheVariants.{Announce, Map, Peer}
use Rattle.pcp_codec.specs.declared.responses.Head.{Head}
use Rattle.pcp_codec.specs.Requests.{body_of, data_length}
use Rattle.pcp_codec.specs.Responses.{head_of}
use Rattle.pcp_options.specs.declared.layout.TheConstants.{THIRD_PARTY_CODE, PREFER_FAILURE_CODE, FILTER_CODE, PORT_SET_CODE}
use Rattle.pcp_options.specs.declared.options.Item.{Item}
use Rattle.pcp_options.specs.declared.options.Item.TheVariants.{ThirdParty, PreferFailure, PortSet}
use Rattle.pcp_options.specs.declared.responses.Response.{Response}
use Rattle.pcp_options.specs.declared.responses.ResponseRefused.{ResponseRefused}
use Rattle.pcp_options.specs.declared.responses.ResponseRefused.TheVariants.{NotResponse, Memory}
use Rattle.pcp_options.specs.Options.{FoundOption, found_in, items_of}
use Rattle.pcp_options.specs.Replies.{opcode_of_body}
use Rattle.pcp_options.specs.Steps.{has_another_length}

-- whether MAP and PEER are for TCP or UDP (our own: other protocols aren't mapped)
abbrev pub has_mapped : Common → Bool
has_mapped c = is_some (protocol_of c.protocol)

abbrev pub is_mapped : Body → Bool
is_mapped Announce = true
is_mapped (Map c) = has_mapped c
is_mapped (Peer c port remote) = has_mapped c

-- whether the option is one of those that are processed
abbrev pub is_known : ℕ → Bool
is_known code =
    code == THIRD_PARTY_CODE || code == PREFER_FAILURE_CODE || code == FILTER_CODE
    || code == PORT_SET_CODE

-- whether the data of an option is there, of the length of its code where that is known
abbrev pub is_whole : FoundOption → Bool
is_whole o =
    nat_le o.claimed (length o.content) && (not (is_known o.code) || not (has_another_length o))

-- whether all are
abbrev pub are_whole : List FoundOption → Bool
are_whole [] = true
are_whole (o ∷ os) = is_whole o && are_whole os

-- those in front of the first that isn't
abbrev pub whole_front : List FoundOption → List FoundOption
whole_front [] = []
whole_front (o ∷ os) = if is_whole o then o ∷ whole_front os else []

abbrev pub is_third : Item → Bool
is_third (ThirdParty a) = true
is_third item = false

abbrev pub is_preference : Item → Bool
is_preference PreferFailure = true
is_preference item = false

abbrev pub is_set : Item → Bool
is_set (PortSet set) = true
is_set item = false

-- whether each option that stands at most once does
abbrev pub are_single : List Item → Bool
are_single items =
    nat_le (count_by is_third items) 1 && nat_le (count_by is_preference items) 1
    && nat_le (count_by is_set items) 1

-- the octets behind the data of the opcode
abbrev pub text_behind : List ℕ → Body → List ℕ
text_behind message body = drop (HEAD_OCTETS + data_length (opcode_of_body body)) message

abbrev pub response_as : Head → Body → List Item → Response
response_as head body items = record {
  opcode = head.opcode;
  code = head.code;
  lifetime = head.lifetime;
  epoch = head.epoch;
  body = body;
  items = items;
}

-- The response of these parts, `all` where all its options are whole. None where its protocol isn't mapped, or where it
-- is a success whose options aren't all whole, or stand again where they must not. The options of an error are read as
-- far as they are whole (our own).
abbrev pub response_by : Head → Body → List Item → Bool → Option Response
response_by head body items all =
    if is_mapped body && (not (code_number head.code == 0) || (all && are_single items))
    then Some (response_as head body items) else None

abbrev pub response_behind : Head → Body → List FoundOption → Option Response
response_behind head body os =
    response_by head body (items_of (whole_front os)) (are_whole os)

abbrev pub response_under : Option Head → List ℕ → Option Response
response_under None message = None
response_under (Some head) message =
    response_behind head (body_of message) (found_in (text_behind message (body_of message)))

-- the response that octets are, none where they are none
abbrev pub response_of : List ℕ → Option Response
response_of message = response_under (head_of message) message

-- what is read is this, unless memory was wanting
abbrev pub ReadsResponse : Result Response ResponseRefused → Option Response → Type 0
ReadsResponse (Ok response) read = read ≡ Some response
ReadsResponse (Err NotResponse) read = read ≡ None
ReadsResponse (Err Memory) read = ⊤
