use Rattle.port_runs.specs.Flags.{IsMarked}
use Rattle.port_runs.proofs.flags.mark.Given as goal

abbrev pub invariant-loop-place : goal.invariant-loop-place
invariant-loop-place l = IsMarked l.from l.place l.value l.initial.flags l.flags
