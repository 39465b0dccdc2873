-- Whose is what a remote peer sends to an external port (our own; filters: RFC 6887, section 13.3).
use Rattle.std.specs.Prelude.{ℕ, ◌&&◌, ◌==◌, max, Bool, List, ◌++◌, map, flat_map, filter, find, Option}
use Rattle.std.specs.Option.{option_map}
use Rattle.pcp_base.specs.declared.addresses.Address.{Address}
use Rattle.pcp_base.specs.declared.leases.Protocol.{Protocol}
use Rattle.pcp_base.specs.declared.leases.Endpoint.{Endpoint}
use Rattle.pcp_base.specs.declared.leases.PeerLease.{PeerLease}
use Rattle.pcp_base.specs.declared.leases.Owner.{Owner}
use Rattle.pcp_base.specs.Tables.{Table, live, same_address}
use Rattle.pcp_base.specs.Owners.{map_owners, peer_owner, is_port}
use Rattle.pcp_base.specs.States.{State}
use Rattle.filter_rules.specs.Filters.{allows}

-- whether the PEER lease has exactly this remote
abbrev pub is_with : Address → ℕ → PeerLease → Bool
is_with remote remote_port l = same_address l.remote remote && l.remote_port == remote_port

-- owned ports through which this remote peer may send: those of MAP leases whose filters allow it,
-- and those of PEER leases with exactly this remote
abbrev pub owners_for : Table → Address → ℕ → List Owner
owners_for t remote remote_port =
    flat_map map_owners (filter (λ l. allows l.filters remote remote_port) t.maps)
    ++ map peer_owner (filter (is_with remote remote_port) t.peers)

-- The endpoint to which a remote peer may send through this port, by the live leases; a moment
-- before the last one counts as that.
abbrev pub look : State → Protocol → ℕ → Address → ℕ → ℕ → Option Endpoint
look s protocol port remote remote_port m = option_map (λ o. o.endpoint)
    (find (is_port protocol port) (owners_for (live s.table (max m s.last)) remote remote_port))
