use Rattle.std.proofs.Common.{◌+◌, ◌*◌, ◌≤◌}
use Rattle.indexed_store.specs.Looks.{most_levels}
use Rattle.indexed_store.specs.Tabled.{Retires, count_of}
use Rattle.indexed_store.proofs.leases.Leases.retire_some.Given as goal

abbrev pub invariant-loop-left : goal.invariant-loop-left
invariant-loop-left g l = Retires l.m l.initial.self l.self × (l.left ≤ 2)
    × (count_of l.self.found + 2 ≤ count_of l.initial.self.found + l.left)
    × (l.steps + l.left * (17 * most_levels) ≤ l.initial.steps + 34 * most_levels)

abbrev pub decreases-loop-left : goal.decreases-loop-left
decreases-loop-left g l = l.left
