use Rattle.lane_index.specs.declared.links.TheConstants.{PORT_SLOTS}
use Rattle.lane_index.specs.Chains.{IsEnding}
use Rattle.lane_index.specs.Links.{AreChained}
use Rattle.lane_index.specs.Slots.{stands_in}
use Rattle.lane_index.proofs.ending.end_all.Given as goal

abbrev pub invariant-loop-at : goal.invariant-loop-at
invariant-loop-at l = IsEnding l.key l.initial.cells l.cells l.keys l.newer l.at × AreChained PORT_SLOTS stands_in l.cells l.peers

abbrev pub decreases-loop-at : goal.decreases-loop-at
decreases-loop-at l = l.at
