use Rattle.std.proofs.Common.{◌≡◌, ◌+◌, ◌-◌, ◌≤◌, drop}
use Rattle.watch_readings.specs.Copies.{common}
use Rattle.watch_readings.proofs.copies.common.Given as goal

abbrev pub decreases-loop-size : goal.decreases-loop-size
decreases-loop-size l = l.most - l.size

abbrev pub invariant-loop-size : goal.invariant-loop-size
invariant-loop-size l = record {
  far : l.size ≤ l.most;
  rest : common l.first l.second ≡ l.size + common (drop l.size l.first) (drop l.size l.second);
}
