use Rattle.std.proofs.Common.{◌-◌, ◌*◌}
use Rattle.port_runs.specs.Flags.{flags_of}
use Rattle.port_runs.proofs.WordRuns.{NoneBefore}
use Rattle.port_runs.proofs.leaf.first_in_word.Given as goal

abbrev pub invariant-loop-place : goal.invariant-loop-place
invariant-loop-place l = NoneBefore (flags_of l.words) (64 * l.index) l.n l.parity l.place

abbrev pub decreases-loop-place : goal.decreases-loop-place
decreases-loop-place l = 65 - l.place
