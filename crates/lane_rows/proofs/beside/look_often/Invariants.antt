use Rattle.std.proofs.Common.{◌≡◌}
use Rattle.lane_rows.proofs.beside.look_often.Given as goal

abbrev pub invariant-loop : goal.invariant-loop
invariant-loop g l = l.lane.index ≡ l.initial.lane.index
