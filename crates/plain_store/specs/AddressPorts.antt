-- The live leases of an address, and the ports that they own (our own).
use Rattle.std.specs.Prelude.{ℕ, ◌&&◌, nat_lt, Bool, List, ◌++◌, map, flat_map, filter}
use Rattle.pcp_base.specs.declared.addresses.Address.{Address}
use Rattle.pcp_base.specs.declared.leases.MapLease.{MapLease}
use Rattle.pcp_base.specs.declared.leases.PeerLease.{PeerLease}
use Rattle.pcp_base.specs.declared.leases.Owner.{Owner}
use Rattle.pcp_base.specs.Tables.{same_address}
use Rattle.pcp_base.specs.Owners.{map_owners, peer_owner}

-- whether the lease is live at m, and the address's
abbrev pub is_map_at : ℕ → Address → MapLease → Bool
is_map_at m who l = nat_lt m l.expiry && same_address l.address who

abbrev pub is_peer_at : ℕ → Address → PeerLease → Bool
is_peer_at m who l = nat_lt m l.expiry && same_address l.endpoint.address who

-- the ports of PEER leases of the address
abbrev pub peer_owners_at : ℕ → Address → List PeerLease → List Owner
peer_owners_at m who peers = map peer_owner (filter (is_peer_at m who) peers)

-- the ports of MAP and PEER leases of the address
abbrev pub owners_at : ℕ → Address → List MapLease → List PeerLease → List Owner
owners_at m who maps peers =
    flat_map map_owners (filter (is_map_at m who) maps) ++ peer_owners_at m who peers
