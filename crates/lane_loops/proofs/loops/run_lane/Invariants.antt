use Rattle.lane_loops.proofs.LaneLemmas.{HasStepped}
use Rattle.lane_loops.proofs.loops.run_lane.Given as goal

abbrev pub invariant-loop : goal.invariant-loop
invariant-loop g l =
    (goal.iterator-loop g).can_next l.iterator' × (goal.iterator-loop g).is_finite l.iterator'
    × HasStepped
    (record {
      lane = l.fn.lane;
      asks = g.L.LaneLink.asks l.fn.link;
      answers = g.L.LaneLink.answers l.fn.link;
      faults = g.L.LaneLink.faults l.fn.link;
      times = g.T.Clock.times l.fn.clock;
    })
    (record {
      lane = l.lane;
      asks = g.L.LaneLink.asks l.link;
      answers = g.L.LaneLink.answers l.link;
      faults = g.L.LaneLink.faults l.link;
      times = g.T.Clock.times l.clock;
    })
