use Rattle.std.proofs.Common.{◌≡◌, ◌+◌, ◌*◌}
use Rattle.expiry_wheel.proofs.Writes.{IsWriting}
use Rattle.expiry_wheel.proofs.tree.write.Given as goal

abbrev pub invariant-loop-level : goal.invariant-loop-level
invariant-loop-level g l = record {
  writing : IsWriting l.levels l.fn.nodes l.nodes l.leaf l.least l.level l.i l.kept;
  cost : l.steps ≡ l.fn.steps + 1 + 2 * l.level;
}
