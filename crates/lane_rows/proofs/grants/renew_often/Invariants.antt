use Rattle.std.proofs.Common.{◌≡◌}
use Rattle.lane_rows.proofs.grants.renew_often.Given as goal

abbrev pub invariant-loop-i : goal.invariant-loop-i
invariant-loop-i g l = l.writer ≡ l.initial.writer
