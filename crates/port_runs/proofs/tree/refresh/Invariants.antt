use Rattle.std.proofs.Common.{◌<◌}
use Rattle.port_runs.specs.Nodes.{HaveSameLeaves, AreJoinedBut}
use Rattle.port_runs.proofs.tree.refresh.Given as goal

abbrev pub invariant-loop-last : goal.invariant-loop-last
invariant-loop-last l = record {
  leaves : HaveSameLeaves l.initial.nodes l.nodes;
  joined : AreJoinedBut l.first l.last l.nodes;
  small : l.last < 1024;
}

abbrev pub decreases-loop-last : goal.decreases-loop-last
decreases-loop-last l = l.last
