use Rattle.std.proofs.Common.{◌≡◌}
use Rattle.lane_rows.proofs.beside.publish_rounds.Given as goal

abbrev pub invariant-loop-round : goal.invariant-loop-round
invariant-loop-round g l = (l.first ≡ l.initial.first) × (l.second ≡ l.initial.second)
    × (l.told.index ≡ l.initial.first) × (l.also.index ≡ l.initial.second)
