-- Which leases and ends let a port rest (our own).
use Rattle.std.specs.Prelude.{ℕ, ◌+◌, ◌&&◌, not, nat_lt, Bool}
use Rattle.pcp_base.specs.declared.leases.TheConstants.{REST_SECONDS}
use Rattle.pcp_base.specs.declared.leases.Protocol.{Protocol}
use Rattle.pcp_base.specs.declared.leases.Endpoint.{Endpoint}
use Rattle.pcp_base.specs.declared.leases.MapLease.{MapLease}
use Rattle.pcp_base.specs.declared.leases.PeerLease.{PeerLease}
use Rattle.pcp_base.specs.declared.leases.End.{End}
use Rattle.pcp_base.specs.Tables.{same_endpoint}
use Rattle.pcp_base.specs.Owners.{is_port, peer_owner, owns, endpoint_behind}
use Rattle.pcp_base.specs.Ends.{is_recent, is_end_of}

-- whether what ended then ended less than 120 seconds before m, and not after it
abbrev pub has_just_ended : ℕ → ℕ → Bool
has_just_ended m end = not (nat_lt m end) && nat_lt m (end + REST_SECONDS)

-- whether the MAP lease has just ended, and owned the port
abbrev pub map_leaves : ℕ → Protocol → ℕ → MapLease → Bool
map_leaves m protocol port l = has_just_ended m l.expiry && owns protocol port l

abbrev pub peer_leaves : ℕ → Protocol → ℕ → PeerLease → Bool
peer_leaves m protocol port l = has_just_ended m l.expiry && is_port protocol port (peer_owner l)

-- whether it is a recent end of the port
abbrev pub end_leaves : ℕ → Protocol → ℕ → End → Bool
end_leaves m protocol port x = is_end_of protocol port x && is_recent m x

abbrev pub is_another : Endpoint → Endpoint → Bool
is_another x e = not (same_endpoint x e)

-- the same, where the endpoint is another one
abbrev pub map_leaves_another : ℕ → ℕ → Endpoint → MapLease → Bool
map_leaves_another m port e l =
    map_leaves m e.protocol port l && is_another (endpoint_behind port l) e

abbrev pub peer_leaves_another : ℕ → ℕ → Endpoint → PeerLease → Bool
peer_leaves_another m port e l =
    peer_leaves m e.protocol port l && is_another l.endpoint e

abbrev pub end_leaves_another : ℕ → ℕ → Endpoint → End → Bool
end_leaves_another m port e x =
    end_leaves m e.protocol port x && is_another x.endpoint e
