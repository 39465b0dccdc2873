-- Who owns which external port (our own).
use Rattle.std.specs.Prelude.{◌≡◌, ℕ, ◌+◌, ◌-◌, ◌&&◌, ◌==◌, nat_le, nat_lt, Bool, List, [], ◌∷◌, ◌++◌, map, flat_map, filter, Contains, if◌then◌else◌}
use Rattle.std.specs.List.{list_any, range_with_len}
use Rattle.pcp_base.specs.declared.addresses.Address.{Address}
use Rattle.pcp_base.specs.declared.leases.Protocol.{Protocol}
use Rattle.pcp_base.specs.declared.leases.Endpoint.{Endpoint}
use Rattle.pcp_base.specs.declared.leases.MapLease.{MapLease}
use Rattle.pcp_base.specs.declared.leases.PeerLease.{PeerLease}
use Rattle.pcp_base.specs.declared.leases.Owner.{Owner}
use Rattle.pcp_base.specs.Tables.{Table, live, same_address, same_protocol}

-- the i-th port of a MAP lease, and the endpoint that owns it
abbrev pub map_owner : MapLease → ℕ → Owner
map_owner l i = record {
  protocol = l.protocol;
  external = l.external + i;
  endpoint = record { address = l.address; protocol = l.protocol; port = l.internal + i };
}

-- the ports of a MAP lease, one to one
abbrev pub map_owners : MapLease → List Owner
map_owners l = map (map_owner l) (range_with_len 0 l.count)

-- whether the MAP lease owns the port
abbrev pub owns : Protocol → ℕ → MapLease → Bool
owns protocol port l = same_protocol l.protocol protocol
    && nat_le l.external port && nat_lt port (l.external + l.count)

-- the endpoint to which an external port of the MAP lease belongs
abbrev pub endpoint_behind : ℕ → MapLease → Endpoint
endpoint_behind port l = record {
  address = l.address;
  protocol = l.protocol;
  port = l.internal + (port - l.external);
}

-- the port of a PEER lease
abbrev pub peer_owner : PeerLease → Owner
peer_owner l = record { protocol = l.endpoint.protocol; external = l.external; endpoint = l.endpoint }

-- each owned port beside its owner, for all leases of the table
abbrev pub owners : Table → List Owner
owners t = flat_map map_owners t.maps ++ map peer_owner t.peers

-- no port of a protocol has two owners
abbrev pub OneOwner : List Owner → Type 0
OneOwner os = (p q : Owner) → Contains os p → Contains os q →
    p.protocol ≡ q.protocol → p.external ≡ q.external → p.endpoint ≡ q.endpoint

-- no endpoint has two ports
abbrev pub OnePort : List Owner → Type 0
OnePort os = (p q : Owner) → Contains os p → Contains os q → p.endpoint ≡ q.endpoint → p.external ≡ q.external

-- whether the owner owns this port
abbrev pub is_port : Protocol → ℕ → Owner → Bool
is_port protocol port o = same_protocol o.protocol protocol && o.external == port

-- whether one of the owners owns this port
abbrev pub is_owned : Protocol → ℕ → List Owner → Bool
is_owned protocol port os = list_any (is_port protocol port) os

-- how many different ports the owners own
abbrev pub port_count : List Owner → ℕ
port_count [] = 0
port_count (o ∷ os) = (if is_owned o.protocol o.external os then 0 else 1) + port_count os

-- how many different ports the leases of the address own that are live at m
abbrev pub owned : Table → ℕ → Address → ℕ
owned t m a = port_count (filter (λ o. same_address o.endpoint.address a) (owners (live t m)))
