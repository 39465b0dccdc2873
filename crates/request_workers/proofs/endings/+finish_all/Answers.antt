use Rattle.std.proofs.Common.{rules}
use Rattle.job_workers.specs.Stations.{OutState}
use Rattle.request_workers.proofs.SeatLemmas.{finishes_more, finishes_none}
use Rattle.request_workers.proofs.endings.+finish_all.Goals as goal

pub returns-in_default-clause-done : goal.returns-in_default-clause-done
returns-in_default-clause-done g t c =
    let told : g.row.O.Denot → OutState = λ o. record { sent = g.O.Outbox.sent o; faults = g.O.Outbox.faults o } in
    finishes_none told g.T.Clock.times _ c.args.queues.now _ _ c.args.outs.now c.args.clocks.now _ _ (search rules) c.requires.left c.requires.outs c.requires.clocks

pub returns-clause-done : goal.returns-clause-done
returns-clause-done g t c =
    let told : g.row.O.Denot → OutState = λ o. record { sent = g.O.Outbox.sent o; faults = g.O.Outbox.faults o } in
    finishes_more told g.T.Clock.times (g.H.JobHouse.calls c.args.house.now) c.args.desks.now.items _ c.take_first-desk.result c.finish-done.result c.args.ports.now.items _ c.take_first-putter.result
    c.args.outs.now _ _ _ _ c.args.clocks.now _ _ _ _
    c.args.passes.now.items _ _ c.args.rows.now.items _ _ c.joined.result
    c.take_first-desk.ensures.items c.take_first-putter.ensures.items c.in-Some-split_first_mut.ensures.cases.0 c.in-Some-split_first_mut-2.ensures.cases.0
    c.finish-done.ensures c.push_reserved-2.ensures.items c.push_reserved.ensures.items c.joined.ensures c.finish_all.ensures.done
