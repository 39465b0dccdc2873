-- Ports in a row, each beside its owner, that a lease owns (our own; for proofs alone).
use Rattle.std.specs.Prelude.{◌≡◌, ℕ, ◌+◌, ◌-◌, ◌≤◌, ◌&&◌, Bool, List, [], map, flat_map, find, Option, Some, None}
use Rattle.std.specs.List.{list_any, range_with_len}
use Rattle.std.specs.Option.{option_map}
use Rattle.pcp_base.specs.declared.leases.Protocol.{Protocol}
use Rattle.pcp_base.specs.declared.leases.MapLease.{MapLease}
use Rattle.pcp_base.specs.declared.leases.PeerLease.{PeerLease}
use Rattle.pcp_base.specs.declared.leases.Owner.{Owner}
use Rattle.pcp_base.specs.declared.records.Change.{Change}
use Rattle.pcp_base.specs.declared.records.Change.TheVariants.{Map, Peer, DropMap, DropPeer}
use Rattle.pcp_base.specs.Tables.{Table, first_endpoint, is_map_of, is_peer_of, same_protocol}
use Rattle.pcp_base.specs.Owners.{peer_owner}
use Rattle.port_runs.specs.Ports.{is_in_run}
use Rattle.indexed_store.specs.declared.owning.OwnerRun.{OwnerRun}

-- the owner of the port i behind that of an owner
abbrev pub owner_along : ℕ → Owner → Owner
owner_along i o = record {
  protocol = o.protocol;
  external = o.external + i;
  endpoint = record o.endpoint { port = o.endpoint.port + i };
}

-- the ports of a run, one to one
abbrev pub owners_of : OwnerRun → List Owner
owners_of r = map (λ i. owner_along i r.first) (range_with_len 0 r.count)

abbrev pub owners_among : List OwnerRun → List Owner
owners_among runs = flat_map owners_of runs

-- whether the port is one of the run
abbrev pub has_port : Protocol → ℕ → OwnerRun → Bool
has_port protocol port r =
    same_protocol r.first.protocol protocol && is_in_run r.first.external r.count port

abbrev pub have_port : Protocol → ℕ → List OwnerRun → Bool
have_port protocol port runs = list_any (has_port protocol port) runs

-- the owner of a port of the run
abbrev pub owner_in : OwnerRun → ℕ → Owner
owner_in r port = owner_along (port - r.first.external) r.first

-- the first n ports of the run
abbrev pub up_to : ℕ → OwnerRun → OwnerRun
up_to n r = record r { count = n }

-- the ports of the run behind the first n
abbrev pub behind : ℕ → OwnerRun → OwnerRun
behind n r = record { first = owner_along n r.first; count = r.count - n }

-- at least one port, of 1 to 65535, with as many internal ones
pub record IsOwnerRun (r : OwnerRun) : Type 0 where
  pub some : 1 ≤ r.count
  pub external : 1 ≤ r.first.external
  pub external_end : r.first.external + r.count ≤ 65536
  pub internal_end : r.first.endpoint.port + r.count ≤ 65536
  pub protocol : r.first.protocol ≡ r.first.endpoint.protocol

-- the ports of a MAP lease
abbrev pub map_run : MapLease → OwnerRun
map_run l = record {
  first = record {
    protocol = l.protocol;
    external = l.external;
    endpoint = first_endpoint l;
  };
  count = l.count;
}

-- the port of a PEER lease
abbrev pub peer_run : PeerLease → OwnerRun
peer_run l = record { first = peer_owner l; count = 1 }

-- the ports of the lease that a change puts or deletes
abbrev pub touched_run : Change → Table → Option OwnerRun
touched_run (Map l) t = Some (map_run l)
touched_run (Peer l) t = Some (peer_run l)
touched_run (DropMap e) t = option_map map_run (find (is_map_of e) t.maps)
touched_run (DropPeer e remote port) t =
    option_map peer_run (find (is_peer_of e remote port) t.peers)
touched_run change t = None

-- the owners of one run, if there is one
abbrev pub owners_if : Option OwnerRun → List Owner
owners_if None = []
owners_if (Some r) = owners_of r
