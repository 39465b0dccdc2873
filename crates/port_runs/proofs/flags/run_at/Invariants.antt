use Rattle.std.proofs.Common.{◌+◌, ◌-◌, ◌≤◌}
use Rattle.port_runs.specs.Flags.{IsSetBetween}
use Rattle.port_runs.proofs.flags.run_at.Given as goal

abbrev pub invariant-loop-count : goal.invariant-loop-count
invariant-loop-count l = (l.count ≤ l.most) × IsSetBetween l.flags l.start (l.start + l.count)

abbrev pub decreases-loop-count : goal.decreases-loop-count
decreases-loop-count l = l.most - l.count
