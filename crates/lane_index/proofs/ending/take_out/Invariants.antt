use Rattle.std.proofs.Common.{◌≤◌}
use Rattle.lane_index.specs.Chains.{IsTold}
use Rattle.lane_index.specs.Slots.{stands_in}
use Rattle.lane_index.proofs.ending.take_out.Given as goal

abbrev pub invariant-loop-at : goal.invariant-loop-at
invariant-loop-at l = (l.number ≤ l.at) × IsTold (stands_in l.slot) l.slot l.cells l.peers l.newer l.at

abbrev pub decreases-loop-at : goal.decreases-loop-at
decreases-loop-at l = l.at
