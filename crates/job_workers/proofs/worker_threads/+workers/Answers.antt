use Rattle.std.proofs.Common.{◌≡◌, length, arith}
use Rattle.job_workers.specs.Stations.{OutState}
use Rattle.job_workers.proofs.SetLemmas.{worked_in_all}
use Rattle.job_workers.proofs.worker_threads.+workers.Goals as goal

pub run_workers-returns : goal.run_workers-returns
run_workers-returns g t c =
    let told : g.row.O.Denot → OutState = λ o. record { sent = g.O.Outbox.sent o; faults = g.O.Outbox.faults o } in
    let outs : length c.split_at_mut-out.result.0.now ≡ length c.split_at_mut-desk.result.0.now =
    omega (arith, c.split_at_mut-out.ensures.front_len, c.split_at_mut-desk.ensures.front_len) in
    let clocks : length c.split_at_mut-clock.result.0.now ≡ length c.split_at_mut-desk.result.0.now =
    omega (arith, c.split_at_mut-clock.ensures.front_len, c.split_at_mut-desk.ensures.front_len) in
    worked_in_all told g.T.Clock.times (g.H.JobHouse.calls c.args.house.now) c.args.desks.now c.args.outs.now c.args.clocks.now
    c.split_at_mut-desk.result.0.now c.split_at_mut-desk.result.1.now c.run_both.new.desk c.run_both.new.desks
    c.split_at_mut-out.result.0.now c.split_at_mut-out.result.1.now c.run_both.new.out c.run_both.new.outs
    c.split_at_mut-clock.result.0.now c.split_at_mut-clock.result.1.now c.run_both.new.clock c.run_both.new.clocks
    c.split_at_mut-desk.ensures.value c.split_at_mut-out.ensures.value c.split_at_mut-clock.ensures.value
    outs clocks
    (omega (arith, outs, c.run_both.auto.out, c.run_both.auto.desk))
    (omega (arith, clocks, c.run_both.auto.clock, c.run_both.auto.desk))
    c.run_both.ensures.first c.run_both.ensures.rest
