use Rattle.std.proofs.Common.{◌≡◌, length}
use Rattle.pcp_base.specs.Tables.{Table}
use Rattle.indexed_store.specs.Leaving.{AreLeaving}
use Rattle.indexed_store.specs.Tabled.{AreTabled}
use Rattle.indexed_store.proofs.leases.Leases.drop_peers.Given as goal

abbrev pub invariant-loop : goal.invariant-loop
invariant-loop g l = AreTabled l.self.found × ((start : Table) → AreLeaving l.m start l.initial.self.found l.initial.left.items → AreLeaving l.m start l.self.found l.left.items) × (l.self.found.maps ≡ l.initial.self.found.maps) × (l.self.past ≡ l.initial.self.past)

abbrev pub decreases-loop : goal.decreases-loop
decreases-loop g l = length l.self.found.peers
