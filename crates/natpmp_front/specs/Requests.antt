-- A request and its fields (RFC 6886, sections 3, 3.2 and 3.3).
use Rattle.std.specs.Prelude.{ℕ, ◌%◌, ◌==◌, ◌&&◌, ◌||◌, nat_eq, nat_lt, nat_le, Bool, false, List, [], length, replicate, None, if◌then◌else◌}
use Rattle.std.specs.List.{starts_with}
use Rattle.pcp_base.specs.declared.addresses.Address.{Address}
use Rattle.pcp_base.specs.declared.leases.Protocol.{Protocol}
use Rattle.pcp_base.specs.declared.leases.Protocol.TheVariants.{Tcp, Udp}
use Rattle.pcp_base.specs.declared.asks.MapAsk.{MapAsk}
use Rattle.pcp_base.specs.declared.asks.Ask.{Ask}
use Rattle.pcp_base.specs.declared.asks.Ask.TheVariants.{Announce, Map}
use Rattle.pcp_base.specs.AddressTexts.{v4_front}
use Rattle.natpmp_front.specs.declared.layout.TheConstants.{VERSION, REPLY_BIT, MAP_UDP_OPERATION, MAP_TCP_OPERATION, MAP_OCTETS, INTERNAL_PLACE, SUGGESTED_PLACE, LIFETIME_PLACE}
use Rattle.natpmp_front.specs.Fields.{octet, u16_at, u32_at}

-- whether a datagram is of this protocol: it has a version, which is 0, and an operation (section 3)
abbrev pub is_front : List ℕ → Bool
is_front message = nat_le 2 (length message) && octet message 0 == VERSION

-- the operation that a request, or a reply, is of (section 3)
abbrev pub operation_of : List ℕ → ℕ
operation_of message = octet message 1 % REPLY_BIT

-- whether the operation asks for a mapping (section 3.3)
abbrev pub is_of_map : List ℕ → Bool
is_of_map message =
    operation_of message == MAP_UDP_OPERATION || operation_of message == MAP_TCP_OPERATION

-- A datagram that gets no reply: it is a reply (section 3), or a request for a mapping that isn't whole (our own).
abbrev pub is_silent : List ℕ → Bool
is_silent message =
    nat_le REPLY_BIT (octet message 1) || (is_of_map message && nat_lt (length message) MAP_OCTETS)

-- whether an address is an IPv4 address (RFC 6887, section 5)
abbrev pub is_v4 : Address → Bool
is_v4 a = starts_with nat_eq a.0 v4_front

-- the protocol of a request for a mapping
abbrev pub protocol_asked : List ℕ → Protocol
protocol_asked message = if operation_of message == MAP_UDP_OPERATION then Udp else Tcp

-- What a request for a mapping asks for: its source is the internal address (section 3.3). Leases of this protocol
-- have the nonce of zeros; no address is suggested, and there are no options.
abbrev pub map_ask : Address → Protocol → ℕ → ℕ → ℕ → MapAsk
map_ask source protocol internal suggested lifetime = record {
  endpoint = record { address = source; protocol = protocol; port = internal };
  nonce = record { 0 = replicate 12 0 };
  lifetime = lifetime;
  port = suggested;
  address = record { 0 = replicate 16 0 };
  prefer = false;
  set = None;
  filters = [];
}

-- what a request that isn't refused asks for; the lifetime 0 asks for deletion (section 3.4)
abbrev pub asked : Address → List ℕ → Ask
asked source message =
    if is_of_map message then
    Map (map_ask source (protocol_asked message) (u16_at message INTERNAL_PLACE)
    (u16_at message SUGGESTED_PLACE) (u32_at message LIFETIME_PLACE))
    else Announce
