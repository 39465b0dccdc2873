use Rattle.std.proofs.Common.{◌+◌, ◌-◌, ◌≤◌}
use Rattle.port_runs.specs.Flags.{flags_of, IsSetBetween}
use Rattle.port_runs.proofs.words.run_at.Given as goal

abbrev pub invariant-loop-count : goal.invariant-loop-count
invariant-loop-count l = record {
  within : l.start + l.count ≤ 65536;
  set : IsSetBetween (flags_of l.words) l.start (l.start + l.count);
}

abbrev pub decreases-loop-count : goal.decreases-loop-count
decreases-loop-count l = l.most - l.count
