-- What a server tells of a lease whose external address changed (RFC 6887, section 14.2; its fields are our own).
use Rattle.std.specs.Prelude.{ℕ, ◌-◌, ◌^◌, nat_lt, min, List, [], ◌∷◌, false, if◌then◌else◌}
use Rattle.pcp_base.specs.declared.addresses.Address.{Address}
use Rattle.pcp_base.specs.declared.leases.MapLease.{MapLease}
use Rattle.pcp_base.specs.declared.leases.PeerLease.{PeerLease}
use Rattle.pcp_base.specs.Protocols.{protocol_number}
use Rattle.pcp_base.specs.Epoch.{epoch_of}
use Rattle.pcp_codec.specs.declared.requests.Body.{Body}
use Rattle.pcp_codec.specs.declared.requests.Body.TheVariants.{Map, Peer}
use Rattle.pcp_options.specs.declared.options.Item.{Item}
use Rattle.pcp_options.specs.declared.options.Item.TheVariants.{PortSet}
use Rattle.pcp_options.specs.Replies.{success_text}

-- the seconds that a lease still has, as they are told
abbrev pub left_of : ℕ → ℕ → ℕ
left_of expiry m = min (expiry - m) (2 ^ 32 - 1)

abbrev pub map_body : MapLease → Address → Body
map_body l address = Map (record {
  nonce = l.nonce;
  protocol = protocol_number l.protocol;
  internal = l.internal;
  external = l.external;
  address = address;
})

abbrev pub peer_body : PeerLease → Address → Body
peer_body l address = Peer (record {
  nonce = l.nonce;
  protocol = protocol_number l.endpoint.protocol;
  internal = l.endpoint.port;
  external = l.external;
  address = address;
}) l.remote_port l.remote

-- a lease of several ports tells them
abbrev pub map_items : MapLease → List Item
map_items l =
    if nat_lt 1 l.count then PortSet (record { size = l.count; first = l.internal; parity = false }) ∷ [] else []

-- the update of a MAP lease at m: a success with the new address, and what the lease still has
abbrev pub map_update : MapLease → Address → ℕ → ℕ → List ℕ
map_update l address m base = success_text (left_of l.expiry m) (epoch_of m base) (map_body l address) (map_items l)

-- the update of a PEER lease at m
abbrev pub peer_update : PeerLease → Address → ℕ → ℕ → List ℕ
peer_update l address m base = success_text (left_of l.expiry m) (epoch_of m base) (peer_body l address) []
