use Rattle.std.proofs.Common.{◌≡◌, false}
use Rattle.lock_rows.proofs.turns.split_often.Given as goal

abbrev pub invariant-loop-i : goal.invariant-loop-i
invariant-loop-i l = (l.pass.turn ≡ l.initial.pass.turn) × (l.pass.out ≡ false)
