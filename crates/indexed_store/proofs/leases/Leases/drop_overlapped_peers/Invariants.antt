use Rattle.std.proofs.Common.{◌≡◌, ◌+◌, ◌*◌, ◌≤◌, Bool, count_by, length}
use Rattle.pcp_base.specs.declared.leases.PeerLease.{PeerLease}
use Rattle.peer_table.specs.PeerLists.{overlaps}
use Rattle.indexed_store.specs.Looks.{most_levels}
use Rattle.indexed_store.proofs.DeadGo.{IsRest}
use Rattle.indexed_store.proofs.leases.Leases.drop_overlapped_peers.Given as goal

abbrev pub invariant-loop-other : goal.invariant-loop-other
invariant-loop-other g l = IsRest l.fn.m l.fn.self.found (record { maps = l.self-inside.maps.found; peers = l.self-inside.peers.found })
    × ((test : PeerLease → Bool) → count_by test l.self-inside.peers.found ≤ count_by test l.fn.self.found.peers)
    × (l.steps + 11 * (count_by (overlaps l.fn.lease) l.self-inside.peers.found * most_levels)
    ≤ l.fn.steps + 11 * (count_by (overlaps l.fn.lease) l.fn.self.found.peers * most_levels))
    × (record { maps = l.self-inside.maps.past; peers = l.self-inside.peers.past } ≡ l.fn.self.past)

abbrev pub decreases-loop-other : goal.decreases-loop-other
decreases-loop-other g l = length l.self-inside.peers.found
