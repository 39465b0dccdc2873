use Rattle.std.proofs.Common.{◌≤◌, ◌+◌}
use Rattle.expiry_wheel.proofs.Walks.{IsPassed}
use Rattle.expiry_wheel.proofs.tree.next_block.Given as goal

abbrev pub invariant-loop-level : goal.invariant-loop-level
invariant-loop-level g l = record {
  passed : IsPassed l.levels l.nodes l.m l.leaf l.level l.node;
  cost : l.steps ≤ l.fn.steps + l.level;
  counted : l.fn.steps ≤ l.steps;
}
