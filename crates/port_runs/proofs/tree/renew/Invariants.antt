use Rattle.port_runs.specs.Flags.{flags_of}
use Rattle.port_runs.proofs.Joins.{Renewed}
use Rattle.port_runs.proofs.tree.renew.Given as goal

abbrev pub invariant-loop-index : goal.invariant-loop-index
invariant-loop-index l = Renewed (flags_of l.words) l.low l.high l.index l.nodes l.changed
