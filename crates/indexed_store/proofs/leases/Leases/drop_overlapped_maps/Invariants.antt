use Rattle.std.proofs.Common.{◌≡◌, ◌+◌, ◌*◌, ◌≤◌, count_by, length}
use Rattle.mapping_table.specs.MapLists.{overlaps}
use Rattle.indexed_store.specs.Looks.{most_levels}
use Rattle.indexed_store.proofs.DeadGo.{IsRest}
use Rattle.indexed_store.proofs.leases.Leases.drop_overlapped_maps.Given as goal

abbrev pub invariant-loop-key : goal.invariant-loop-key
invariant-loop-key g l = IsRest l.fn.m l.fn.self.found (record { maps = l.self-inside.maps.found; peers = l.self-inside.peers.found })
    × (l.self-inside.peers.found ≡ l.fn.self.found.peers)
    × (l.steps + 14 * (count_by (overlaps l.fn.lease) l.self-inside.maps.found * most_levels)
    ≤ l.fn.steps + most_levels + 14 * (count_by (overlaps l.fn.lease) l.fn.self.found.maps * most_levels))
    × (record { maps = l.self-inside.maps.past; peers = l.self-inside.peers.past } ≡ l.fn.self.past)

abbrev pub decreases-loop-key : goal.decreases-loop-key
decreases-loop-key g l = length l.self-inside.maps.found
