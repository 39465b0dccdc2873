-- What a request asks for (RFC 6887, sections 11.1, 12.1, 13 and 14.1).
use Rattle.std.specs.Prelude.{ℕ, ◌==◌, Bool, true, false, List, [], ◌∷◌, Option, Some, None, Result, Ok, Err, filter_map, if◌then◌else◌}
use Rattle.pcp_base.specs.declared.addresses.Address.{Address}
use Rattle.pcp_base.specs.declared.leases.Protocol.{Protocol}
use Rattle.pcp_base.specs.declared.leases.Endpoint.{Endpoint}
use Rattle.pcp_base.specs.declared.leases.Filter as Filters
use Rattle.pcp_base.specs.declared.codes.Code.{Code}
use Rattle.pcp_base.specs.declared.codes.Code.TheVariants.{MalformedRequest, UnsuppProtocol}
use Rattle.pcp_base.specs.declared.asks.PortSet as Sets
use Rattle.pcp_base.specs.declared.asks.Ask.{Ask}
use Rattle.pcp_base.specs.declared.asks.Ask.TheVariants as Asks
use Rattle.pcp_base.specs.Protocols.{protocol_of}
use Rattle.pcp_codec.specs.declared.requests.Common.{Common}
use Rattle.pcp_codec.specs.declared.requests.Body.{Body}
use Rattle.pcp_codec.specs.declared.requests.Body.TheVariants.{Announce, Map, Peer}
use Rattle.pcp_codec.specs.declared.requests.Frame.{Frame}
use Rattle.pcp_options.specs.declared.options.Item.{Item}
use Rattle.pcp_options.specs.declared.options.Item.TheVariants.{ThirdParty, PreferFailure, Filter, PortSet}
use Rattle.pcp_options.specs.declared.options.Seen.{Seen}

-- the address of THIRD_PARTY, where it is there
abbrev pub third_of : List Item → Option Address
third_of [] = None
third_of (ThirdParty a ∷ items) = Some a
third_of (item ∷ items) = third_of items

-- whether PREFER_FAILURE is there
abbrev pub prefers : List Item → Bool
prefers [] = false
prefers (PreferFailure ∷ items) = true
prefers (item ∷ items) = prefers items

-- the PORT_SET, where it is there
abbrev pub set_of : List Item → Option Sets.PortSet
set_of [] = None
set_of (PortSet set ∷ items) = Some set
set_of (item ∷ items) = set_of items

abbrev pub filter_of : Item → Option Filters.Filter
filter_of (Filter f) = Some f
filter_of item = None

-- the filters, in order
abbrev pub filters_of : List Item → List Filters.Filter
filters_of items = filter_map filter_of items

-- the options that stand at most once
abbrev pub seen_of : List Item → Seen
seen_of items = record { third = third_of items; prefers = prefers items; set = set_of items }

-- the address that a request is for
abbrev pub subject_of : Address → Option Address → Address
subject_of source None = source
subject_of source (Some third) = third

-- the endpoint that a request names; none where its protocol isn't mapped, or its internal port is 0
abbrev pub endpoint_by : Address → ℕ → Option Protocol → Option Endpoint
endpoint_by address port None = None
endpoint_by address port (Some protocol) =
    if port == 0 then None else Some (record { address = address; protocol = protocol; port = port })

abbrev pub endpoint_of : Address → Common → Option Endpoint
endpoint_of address c = endpoint_by address c.internal (protocol_of c.protocol)

abbrev pub map_ask : ℕ → Common → Seen → List Filters.Filter → Option Endpoint → Result Ask Code
map_ask lifetime c seen filters None = Err UnsuppProtocol
map_ask lifetime c seen filters (Some endpoint) = Ok (Asks.Map (record {
  endpoint = endpoint;
  nonce = c.nonce;
  lifetime = lifetime;
  port = c.external;
  address = c.address;
  prefer = seen.prefers;
  set = seen.set;
  filters = filters;
}))

abbrev pub peer_ask : ℕ → Common → ℕ → Address → Option Endpoint → Result Ask Code
peer_ask lifetime c port remote None = Err UnsuppProtocol
peer_ask lifetime c port remote (Some endpoint) =
    if port == 0 then Err MalformedRequest else Ok (Asks.Peer (record {
      endpoint = endpoint;
      nonce = c.nonce;
      lifetime = lifetime;
      port = c.external;
      address = c.address;
      remote = remote;
      remote_port = port;
    }))

abbrev pub ask_by : Address → ℕ → Body → Seen → List Filters.Filter → Result Ask Code
ask_by address lifetime Announce seen filters = Ok Asks.Announce
ask_by address lifetime (Map c) seen filters = map_ask lifetime c seen filters (endpoint_of address c)
ask_by address lifetime (Peer c port remote) seen filters =
    peer_ask lifetime c port remote (endpoint_of address c)

-- what is asked for an address, or the code of what can't be asked for
abbrev pub ask_of : Address → Frame → List Item → Result Ask Code
ask_of address frame items = ask_by address frame.lifetime frame.body (seen_of items) (filters_of items)
