use Rattle.std.proofs.Common.{◌≡◌}
use Rattle.lane_rows.proofs.grants.publish_all.Given as goal

abbrev pub invariant-loop-kept : goal.invariant-loop-kept
invariant-loop-kept g l = (l.lane.index ≡ l.initial.lane.index) × (l.writer ≡ l.initial.writer)
