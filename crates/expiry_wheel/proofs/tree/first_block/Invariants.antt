use Rattle.std.proofs.Common.{◌≡◌, ◌+◌, ◌-◌}
use Rattle.expiry_wheel.proofs.Walks.{IsOnWay}
use Rattle.expiry_wheel.proofs.tree.first_block.Given as goal

abbrev pub invariant-loop-left : goal.invariant-loop-left
invariant-loop-left g l = record {
  way : IsOnWay l.levels l.nodes l.m (l.levels - l.depth) l.node l.left l.i;
  cost : l.steps + l.left ≡ l.fn.steps + (l.levels - l.depth);
}

abbrev pub decreases-loop-left : goal.decreases-loop-left
decreases-loop-left g l = l.left
