use Rattle.std.proofs.Common.{◌≡◌, length, arith}
use Rattle.lane_loops.specs.LaneSets.{LinkState}
use Rattle.lane_loops.proofs.SetLemmas.{run_in_all}
use Rattle.lane_loops.proofs.threads.+lanes.Goals as goal

pub run_lanes-returns : goal.run_lanes-returns
run_lanes-returns g t c =
    let told : g.row.L.Denot → LinkState = λ l. record {
      asks = g.L.LaneLink.asks l;
      answers = g.L.LaneLink.answers l;
      faults = g.L.LaneLink.faults l;
    } in
    let links : length c.split_at_mut-link.result.0.now ≡ length c.split_at_mut-lane.result.0.now =
    omega (arith, c.split_at_mut-link.ensures.front_len, c.split_at_mut-lane.ensures.front_len) in
    let clocks : length c.split_at_mut-clock.result.0.now ≡ length c.split_at_mut-lane.result.0.now =
    omega (arith, c.split_at_mut-clock.ensures.front_len, c.split_at_mut-lane.ensures.front_len) in
    run_in_all told g.T.Clock.times c.args.lanes.now c.args.links.now c.args.clocks.now
    c.split_at_mut-lane.result.0.now c.split_at_mut-lane.result.1.now c.run_both.new.lane c.run_both.new.lanes
    c.split_at_mut-link.result.0.now c.split_at_mut-link.result.1.now c.run_both.new.link c.run_both.new.links
    c.split_at_mut-clock.result.0.now c.split_at_mut-clock.result.1.now c.run_both.new.clock c.run_both.new.clocks
    c.split_at_mut-lane.ensures.value c.split_at_mut-link.ensures.value c.split_at_mut-clock.ensures.value
    links clocks
    (omega (arith, links, c.run_both.auto.link, c.run_both.auto.lane))
    (omega (arith, clocks, c.run_both.auto.clock, c.run_both.auto.lane))
    c.run_both.ensures.first c.run_both.ensures.rest
