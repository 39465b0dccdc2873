use Rattle.std.proofs.Common.{◌≡◌, length, false}
use Rattle.lock_rows.proofs.turns.add_many.Given as goal

abbrev pub invariant-loop-i : goal.invariant-loop-i
invariant-loop-i g l = (l.pass.turn ≡ l.initial.pass.turn) × (l.pass.out ≡ false) × (length l.pass.mine ≡ l.i)
