use Rattle.std.proofs.Common.{◌≡◌, ◌+◌, ◌*◌, ◌≤◌, count_by, length}
use Rattle.peer_table.specs.PeerLists.{is_ended_of}
use Rattle.indexed_store.specs.Looks.{most_levels}
use Rattle.indexed_store.proofs.DeadGo.{IsRest}
use Rattle.indexed_store.proofs.leases.Leases.drop_ended_of.Given as goal

abbrev pub invariant-loop-other : goal.invariant-loop-other
invariant-loop-other g l = IsRest l.fn.m l.fn.self.found (record { maps = l.self-inside.maps.found; peers = l.self-inside.peers.found })
    × (l.steps + 24 * (count_by (is_ended_of l.fn.endpoint l.fn.m) l.self-inside.peers.found * most_levels)
    ≤ l.fn.steps + 24 * (count_by (is_ended_of l.fn.endpoint l.fn.m) l.fn.self.found.peers * most_levels))
    × (record { maps = l.self-inside.maps.past; peers = l.self-inside.peers.past } ≡ l.fn.self.past)

abbrev pub decreases-loop-other : goal.decreases-loop-other
decreases-loop-other g l = length l.self-inside.peers.found
