use Rattle.std.proofs.Common.{◌-◌, ◌*◌}
use Rattle.port_runs.specs.Flags.{flags_of}
use Rattle.port_runs.proofs.WordRuns.{IsLongestBefore}
use Rattle.port_runs.proofs.leaf.longest_in.Given as goal

abbrev pub invariant-loop-place : goal.invariant-loop-place
invariant-loop-place l = record {
  even : IsLongestBefore (flags_of l.words) (64 * l.index) l.place 0 l.even;
  odd : IsLongestBefore (flags_of l.words) (64 * l.index) l.place 1 l.odd;
}

abbrev pub decreases-loop-place : goal.decreases-loop-place
decreases-loop-place l = 65 - l.place
