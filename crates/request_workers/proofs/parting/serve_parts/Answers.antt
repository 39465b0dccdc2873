use Rattle.std.proofs.Common.{◌≡◌, ℕ, ◌+◌, length, map, Option, refl, ap, arith}
use Rattle.pcp_base.specs.declared.configs.TheConstants.{MOST_EXTERNALS}
use Rattle.pcp_io.specs.Times.{Times}
use Rattle.lane_loops.specs.LaneSets.{LinkState}
use Rattle.job_workers.specs.Stations.{OutState}
use Rattle.request_workers.proofs.PartLemmas.{parts_of, serves_with, with_last, with_other_last}
use Rattle.request_workers.proofs.parting.serve_parts.Goals as goal

pub returns : goal.returns
returns g c =
    let told : g.row.O.Denot → OutState = λ o. record { sent = g.O.Outbox.sent o; faults = g.O.Outbox.faults o } in
    let asked : g.row.L.Denot → LinkState = λ l. record { asks = g.L.LaneLink.asks l; answers = g.L.LaneLink.answers l; faults = g.L.LaneLink.faults l } in
    let times : g.row.T.Denot → Option Times = λ t. g.T.Clock.times t in
    let count : ℕ = length c.args.config.now.externals in
    let is : c.len-count.result ≡ length c.args.config.now.externals = omega (arith, c.len-count.ensures, c.requires.all, c.args.passes.now.ok.0) in
    let one_out : length c.split_at_mut-front_outs.result.1.now ≡ 1 = omega (arith, c.split_at_mut-front_outs.ensures.back_len, c.requires.outs) in
    let one_clock : length c.split_at_mut-front_clocks.result.1.now ≡ 1 = omega (arith, c.split_at_mut-front_clocks.ensures.back_len, c.requires.clocks) in
    let first : length c.split_at_mut-first_clocks.result.0.now ≡ MOST_EXTERNALS = c.split_at_mut-first_clocks.ensures.front_len in
    let later : length c.split_at_mut-first_clocks.result.1.now ≡ MOST_EXTERNALS = omega (arith, c.split_at_mut-first_clocks.ensures.back_len, c.split_at_mut-front_clocks.ensures.front_len) in
    let outs1 : length c.split_at_mut-worker_outs.result.0.now ≡ length c.args.config.now.externals = omega (arith, is, c.split_at_mut-worker_outs.ensures.front_len) in
    let clocks1 : length c.split_at_mut-worker_clocks.result.0.now ≡ length c.args.config.now.externals = omega (arith, is, c.split_at_mut-worker_clocks.ensures.front_len) in
    let links1 : length c.split_at_mut-lane_links.result.0.now ≡ length c.args.config.now.externals = omega (arith, is, c.split_at_mut-lane_links.ensures.front_len) in
    let lane1 : length c.split_at_mut-lane_clocks.result.0.now ≡ length c.args.config.now.externals = omega (arith, is, c.split_at_mut-lane_clocks.ensures.front_len) in
    let outs2 : length c.args.config.now.externals + length c.split_at_mut-worker_outs.result.1.now ≡ MOST_EXTERNALS = omega (arith, is, c.split_at_mut-worker_outs.ensures.back_len, c.split_at_mut-front_outs.ensures.front_len) in
    let clocks2 : length c.args.config.now.externals + length c.split_at_mut-worker_clocks.result.1.now ≡ MOST_EXTERNALS = omega (arith, is, c.split_at_mut-worker_clocks.ensures.back_len, first) in
    let links2 : length c.args.config.now.externals + length c.split_at_mut-lane_links.result.1.now ≡ MOST_EXTERNALS = omega (arith, is, c.split_at_mut-lane_links.ensures.back_len, c.requires.links) in
    let lane2 : length c.args.config.now.externals + length c.split_at_mut-lane_clocks.result.1.now ≡ MOST_EXTERNALS = omega (arith, is, c.split_at_mut-lane_clocks.ensures.back_len, later) in
    record {
      spare = record {
        outs = map told c.split_at_mut-worker_outs.result.1.now;
        clocks = map times c.split_at_mut-worker_clocks.result.1.now;
        links = map asked c.split_at_mut-lane_links.result.1.now;
        lane_clocks = map times c.split_at_mut-lane_clocks.result.1.now;
      };
      before = record {
        outs = map told c.split_at_mut-worker_outs.result.0.now;
        clocks = map times c.split_at_mut-worker_clocks.result.0.now;
        links = map asked c.split_at_mut-lane_links.result.0.now;
        lane_clocks = map times c.split_at_mut-lane_clocks.result.0.now;
        out = told c.index-last_outs-0.result;
        clock = times c.index-last_clocks-0.result;
      };
      after = record {
        outs = map told c.serve_room.new.outs;
        clocks = map times c.serve_room.new.clocks;
        links = map asked c.serve_room.new.links;
        lane_clocks = map times c.serve_room.new.lane_clocks;
        out = told c.serve_room.new.out;
        clock = times c.serve_room.new.clock;
      };
      parts_were = parts_of told asked times count _ _ _ _
          _ c.split_at_mut-front_outs.result.0.now _ _ c.index-last_outs-0.result _ _ _
          _ c.split_at_mut-front_clocks.result.0.now c.split_at_mut-first_clocks.result.0.now c.split_at_mut-first_clocks.result.1.now _ _ _ _ c.index-last_clocks-0.result
          (with_last _ _ _ _ c.split_at_mut-front_outs.ensures.value one_out c.index-last_outs-0.is)
          c.split_at_mut-worker_outs.ensures.value c.split_at_mut-lane_links.ensures.value
          (with_last _ _ _ _ c.split_at_mut-front_clocks.ensures.value one_clock c.index-last_clocks-0.is)
          c.split_at_mut-first_clocks.ensures.value c.split_at_mut-worker_clocks.ensures.value c.split_at_mut-lane_clocks.ensures.value
          outs1 clocks1 links1 lane1 outs2 clocks2 links2 lane2;
      parts_are = parts_of told asked times count _ _ _ _
          _ _ _ _ c.serve_room.new.out _ _ _
          _ _ _ _ _ _ _ _ c.serve_room.new.clock
          (with_other_last _ _ _ one_out) refl refl (with_other_last _ _ _ one_clock) refl refl refl
          (omega (arith, outs1, c.serve_room.auto.outs)) (omega (arith, clocks1, c.serve_room.auto.clocks))
          (omega (arith, links1, c.serve_room.auto.links)) (omega (arith, lane1, c.serve_room.auto.lane_clocks))
          outs2 clocks2 links2 lane2;
      serves = serves_with _ _ _ _ _ _ _ _ _ _ _ _ _ _ _ _ _ _ _ _ _ _ _ _ _ _ _
          (ap told c.index-last_outs-0.is) (ap times c.index-last_clocks-0.is) c.serve_room.ensures;
    }
