-- What a client's command asks for (our own).
use Rattle.std.specs.Prelude.{ℕ, ◌<◌, ◌≤◌, length, nat_lt, nat_eq, false, [], ◌++◌, replicate, Option, Some, None, if◌then◌else◌}
use Rattle.std.specs.Int.{to_be_bytes, w32}
use Rattle.std.specs.List.{starts_with}
use Rattle.pcp_base.specs.declared.addresses.Address.{Address}
use Rattle.pcp_base.specs.declared.addresses.Nonce.{Nonce}
use Rattle.pcp_base.specs.declared.asks.Ask.{Ask}
use Rattle.pcp_base.specs.declared.asks.Ask.TheVariants as Asks
use Rattle.pcp_base.specs.declared.asks.MapAsk.{MapAsk}
use Rattle.pcp_base.specs.declared.asks.PeerAsk.{PeerAsk}
use Rattle.pcp_base.specs.declared.asks.PortSet.{PortSet}
use Rattle.pcp_base.specs.declared.leases.Endpoint.{Endpoint}
use Rattle.pcp_base.specs.AddressTexts.{v4_front}
use Rattle.client_commands.specs.declared.commands.ClientCommand.{ClientCommand}
use Rattle.client_commands.specs.declared.commands.ClientCommand.TheVariants.{Map, Peer, Announce}
use Rattle.client_commands.specs.declared.commands.MapWanted.{MapWanted}
use Rattle.client_commands.specs.declared.commands.Mapping.{Mapping}
use Rattle.client_commands.specs.declared.commands.PeerWanted.{PeerWanted}
use Rattle.client_commands.specs.declared.commands.Target.{Target}
use Rattle.client_words.specs.declared.more.More.{More}

-- three words as a nonce, each written big-endian
abbrev pub nonce_of : ℕ → ℕ → ℕ → Nonce
nonce_of a b c =
    record { 0 = to_be_bytes w32 a ++ to_be_bytes w32 b ++ to_be_bytes w32 c }

-- no address is suggested, in the form of one's own
abbrev pub unsuggested : Address → Address
unsuggested own =
    if starts_with nat_eq own.0 v4_front then record { 0 = v4_front ++ replicate 4 0 }
    else record { 0 = replicate 16 0 }

-- more ports than one are asked for by PORT_SET
abbrev pub set_asked : MapWanted → Option PortSet
set_asked w =
    if nat_lt 1 w.size
    then Some (record { size = w.size; first = w.mapping.port; parity = false }) else None

-- the client's own address, with the protocol and the internal port
abbrev pub endpoint_of : Target → Mapping → Endpoint
endpoint_of t m = record { address = t.own; protocol = m.protocol; port = m.port }

abbrev pub map_asked : Target → MapWanted → More → Nonce → MapAsk
map_asked t w more nonce = record {
  endpoint = endpoint_of t w.mapping;
  nonce = nonce;
  lifetime = w.mapping.lifetime;
  port = w.mapping.external;
  address = unsuggested t.own;
  prefer = w.prefer;
  set = set_asked w;
  filters = more.filters;
}

abbrev pub peer_asked : Target → PeerWanted → Nonce → PeerAsk
peer_asked t w nonce = record {
  endpoint = endpoint_of t w.mapping;
  nonce = nonce;
  lifetime = w.mapping.lifetime;
  port = w.mapping.external;
  address = unsuggested t.own;
  remote = w.remote;
  remote_port = w.remote_port;
}

-- what a command asks for with a nonce, and with more that the words say
abbrev pub asked_by : ClientCommand → More → Nonce → Ask
asked_by (Map t w) more nonce = Asks.Map (map_asked t w more nonce)
asked_by (Peer t w) more nonce = Asks.Peer (peer_asked t w nonce)
asked_by (Announce t) more nonce = Asks.Announce

-- whom it asks, and how often
abbrev pub target_of : ClientCommand → Target
target_of (Map t w) = t
target_of (Peer t w) = t
target_of (Announce t) = t

-- it asks once at least, not for nothing, and with few filters
abbrev pub CanBeAsked : ClientCommand → More → Type 0
CanBeAsked (Map t w) more =
    (0 < t.tries) × (0 < w.mapping.lifetime) × (length more.filters ≤ 8)
CanBeAsked (Peer t w) more = (0 < t.tries) × (0 < w.mapping.lifetime)
CanBeAsked (Announce t) more = 0 < t.tries
