use Rattle.std.proofs.Common.{◌≡◌}
use Rattle.lane_rows.proofs.grants.first_other.Given as goal

abbrev pub invariant-loop-i : goal.invariant-loop-i
invariant-loop-i g l = l.lane.index ≡ l.initial.lane.index
