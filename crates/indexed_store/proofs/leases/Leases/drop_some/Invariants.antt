use Rattle.std.proofs.Common.{◌≡◌, ◌+◌, ◌*◌, ◌≤◌}
use Rattle.pcp_base.specs.Tables.{live}
use Rattle.indexed_store.specs.Looks.{most_levels}
use Rattle.indexed_store.specs.Tabled.{ArePart, AreTabled, count_of}
use Rattle.indexed_store.proofs.leases.Leases.drop_some.Given as goal

abbrev pub invariant-loop-left : goal.invariant-loop-left
invariant-loop-left g l = AreTabled l.self.found × (live l.self.found l.m ≡ live l.initial.self.found l.m) × ArePart l.self.past l.initial.self.past × (l.left ≤ 2)
    × (count_of l.self.found + count_of l.self.past + 2 ≤ count_of l.initial.self.found + count_of l.initial.self.past + l.left)
    × (l.steps + l.left * (13 * most_levels) ≤ l.initial.steps + 26 * most_levels)

abbrev pub decreases-loop-left : goal.decreases-loop-left
decreases-loop-left g l = l.left
