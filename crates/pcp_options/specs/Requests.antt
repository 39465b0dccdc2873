-- The one text of a request (RFC 6887, sections 7.1, 11.1, 12.1, 13 and 14.1; PORT_SET: RFC 7753, section 4.1): with its
-- options as they are, and as a client writes it for an ask. Reserved octets and padding are zero.
use Rattle.std.specs.Prelude.{ℕ, ◌≤◌, Bool, List, [], ◌∷◌, ◌++◌, length, map, Option, option_map, option_to_list, if◌then◌else◌, ⊤}
use Rattle.std.specs.Int.{to_be_bytes, w32}
use Rattle.pcp_base.specs.declared.addresses.Address.{Address}
use Rattle.pcp_base.specs.declared.addresses.Nonce.{Nonce}
use Rattle.pcp_base.specs.declared.leases.Endpoint.{Endpoint}
use Rattle.pcp_base.specs.declared.asks.Ask.{Ask}
use Rattle.pcp_base.specs.declared.asks.Ask.TheVariants as Asks
use Rattle.pcp_base.specs.Protocols.{protocol_number}
use Rattle.pcp_codec.specs.declared.layout.TheConstants.{VERSION}
use Rattle.pcp_codec.specs.declared.requests.Common.{Common}
use Rattle.pcp_codec.specs.declared.requests.Body.{Body}
use Rattle.pcp_codec.specs.declared.requests.Body.TheVariants.{Announce, Map, Peer}
use Rattle.pcp_options.specs.declared.options.Item.{Item}
use Rattle.pcp_options.specs.declared.options.Item.TheVariants.{ThirdParty, PreferFailure, Filter, PortSet}
use Rattle.pcp_options.specs.declared.requests.TheConstants.{MOST_ASKED_FILTERS}
use Rattle.pcp_options.specs.Options.{option_of, options_text}
use Rattle.pcp_options.specs.Replies.{body_text, opcode_of_body}

-- what can be written: an ask of which it isn't known already how it is refused, and that has few filters
abbrev pub CanBeWritten : Ask → Type 0
CanBeWritten (Asks.Known refusal) = ⊥
CanBeWritten Asks.Announce = ⊤
CanBeWritten (Asks.Map ask) = length ask.filters ≤ MOST_ASKED_FILTERS
CanBeWritten (Asks.Peer ask) = ⊤

abbrev pub asked_common : Endpoint → Nonce → ℕ → Address → Common
asked_common endpoint nonce external address = record {
  nonce = nonce;
  protocol = protocol_number endpoint.protocol;
  internal = endpoint.port;
  external = external;
  address = address;
}

-- the data of the request's opcode
abbrev pub asked_body : Ask → Body
asked_body (Asks.Known refusal) = Announce
asked_body Asks.Announce = Announce
asked_body (Asks.Map ask) = Map (asked_common ask.endpoint ask.nonce ask.port ask.address)
asked_body (Asks.Peer ask) =
    Peer (asked_common ask.endpoint ask.nonce ask.port ask.address) ask.remote_port ask.remote

abbrev pub asked_lifetime : Ask → ℕ
asked_lifetime (Asks.Known refusal) = 0
asked_lifetime Asks.Announce = 0
asked_lifetime (Asks.Map ask) = ask.lifetime
asked_lifetime (Asks.Peer ask) = ask.lifetime

abbrev pub asked_third : Option Address → List Item
asked_third third = option_to_list (option_map ThirdParty third)

abbrev pub asked_preference : Bool → List Item
asked_preference prefer = if prefer then PreferFailure ∷ [] else []

-- its options, in order: THIRD_PARTY, PREFER_FAILURE, the filters in their order, PORT_SET; ANNOUNCE has none (14.1)
abbrev pub asked_items : Option Address → Ask → List Item
asked_items third (Asks.Known refusal) = []
asked_items third Asks.Announce = []
asked_items third (Asks.Map ask) =
    asked_third third ++ asked_preference ask.prefer ++ map Filter ask.filters
    ++ option_to_list (option_map PortSet ask.set)
asked_items third (Asks.Peer ask) = asked_third third

-- a request of this client address, with this lifetime, this data of its opcode and these options, in order
abbrev pub request_with : Address → ℕ → Body → List Item → List ℕ
request_with client lifetime body items =
    VERSION ∷ opcode_of_body body ∷ 0 ∷ 0 ∷ to_be_bytes w32 lifetime ++ client.0 ++ body_text body
    ++ options_text (map option_of items)

-- the request of a client of this address for this ask
abbrev pub request_text : Address → Option Address → Ask → List ℕ
request_text own third ask =
    request_with own (asked_lifetime ask) (asked_body ask) (asked_items third ask)
