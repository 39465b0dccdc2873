use Rattle.std.proofs.Common.{ℕ, ◌<◌}
use Rattle.port_runs.specs.Flags.{FitsFlags}
use Rattle.port_runs.proofs.flags.first_run.Given as goal

abbrev pub invariant-loop-start : goal.invariant-loop-start
invariant-loop-start l = (other : ℕ) → other < l.start → ¬ FitsFlags l.flags l.n l.parity other
