use Rattle.std.proofs.Common.{◌-◌, ◌≤◌}
use Rattle.port_runs.specs.Flags.{flags_of, IsMarked}
use Rattle.port_runs.proofs.words.mark.Given as goal

abbrev pub invariant-loop-place : goal.invariant-loop-place
invariant-loop-place l = record {
  marked : IsMarked l.from l.place l.value (flags_of l.initial.words) (flags_of l.words);
  ordered : l.from ≤ l.place;
  upto : l.place ≤ l.to;
}

abbrev pub decreases-loop-place : goal.decreases-loop-place
decreases-loop-place l = l.to - l.place
