-- What a lease finds that is put beside leases that have ended (our own; for proofs alone).
use Rattle.std.specs.Prelude.{◌≡◌, ℕ, ◌+◌, ◌<◌, nat_lt, true, false, length, count_by, find, None, IfSome}
use Rattle.std.specs.List.{list_any}
use Rattle.pcp_base.specs.declared.leases.TheConstants.{MOST_LEASES, MOST_PEERS}
use Rattle.pcp_base.specs.declared.leases.MapLease.{MapLease}
use Rattle.pcp_base.specs.declared.leases.PeerLease.{PeerLease}
use Rattle.pcp_base.specs.Tables.{Table, first_endpoint, is_map_of, is_peer_of, names}
use Rattle.mapping_table.specs.MapLists.{overlaps as overlaps_map}
use Rattle.peer_table.specs.PeerLists.{overlaps as overlaps_peer}
use Rattle.indexed_store.specs.Tabled.{AreTabled}

-- No MAP lease is in the way of this one: none overlaps it, and one with its key is live at m; where
-- there is none, one more has room.
pub record HasWayForMap (m : ℕ) (l : MapLease) (t : Table) : Type 0 where
  pub tabled : AreTabled t
  pub apart : list_any (overlaps_map l) t.maps ≡ false
  pub own : IfSome (find (is_map_of (first_endpoint l)) t.maps) (λ x. nat_lt m x.expiry ≡ true)
  pub room : find (is_map_of (first_endpoint l)) t.maps ≡ None →
      length t.maps + length t.peers < MOST_LEASES

-- No PEER lease is in the way of this one, likewise; and its endpoint has room for one more.
pub record HasWayForPeer (m : ℕ) (l : PeerLease) (t : Table) : Type 0 where
  pub tabled : AreTabled t
  pub apart : list_any (overlaps_peer l) t.peers ≡ false
  pub own : IfSome (find (is_peer_of l.endpoint l.remote l.remote_port) t.peers)
      (λ x. nat_lt m x.expiry ≡ true)
  pub room : find (is_peer_of l.endpoint l.remote l.remote_port) t.peers ≡ None →
      length t.maps + length t.peers < MOST_LEASES
  pub of_endpoint : find (is_peer_of l.endpoint l.remote l.remote_port) t.peers ≡ None →
      count_by (λ other. names other l.endpoint) t.peers < MOST_PEERS
