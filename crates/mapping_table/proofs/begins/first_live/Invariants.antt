use Rattle.std.proofs.Common.{◌+◌, ◌-◌, ◌*◌, ◌≤◌, length}
use Rattle.std.specs.BTreeMap.{values}
use Rattle.step_count.specs.Levels.{levels}
use Rattle.mapping_table.specs.MapLists.{is_live_map}
use Rattle.mapping_table.specs.Kept.{NoneBegins}
use Rattle.mapping_table.proofs.begins.first_live.Given as goal

abbrev pub invariant-loop-at : goal.invariant-loop-at
invariant-loop-at g l =
    NoneBegins (is_live_map l.m) l.endpoint l.from l.at (values l.kept.leases) × (l.from ≤ l.at) × (l.at ≤ l.end)
    × (l.steps ≤ l.initial.steps + 2 * (l.at - l.from) * levels (length (values l.kept.leases)))

abbrev pub decreases-loop-at : goal.decreases-loop-at
decreases-loop-at g l = l.end - l.at
