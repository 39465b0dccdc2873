use Rattle.port_runs.proofs.Joins.{Rejoined}
use Rattle.port_runs.proofs.tree.rejoin.Given as goal

abbrev pub invariant-loop-place : goal.invariant-loop-place
invariant-loop-place l = Rejoined l.low l.high l.place l.initial.nodes l.nodes l.changed
