use Rattle.std.proofs.Common.{length, List, sym, ap, subst, ◌∙◌, arith}
use Rattle.pcp_base.specs.declared.configs.Config.{Config}
use Rattle.job_workers.specs.declared.workers.Desk.{Desk}
use Rattle.job_workers.specs.Stations.{AreStations, OutState}
use Rattle.job_dispatch.specs.declared.ports.Port.{Port}
use Rattle.job_dispatch.specs.Dispatches.{ArePorts}
use Rattle.request_workers.proofs.ServeLemmas.{are_ports, are_stations, desks-length, left_of, ports-length, take_front}
use Rattle.request_workers.proofs.ShardLemmas.{runs_all}
use Rattle.request_workers.proofs.serving.run_seated.Goals as goal

pub run_threads-read-requires-clause-outs : goal.run_threads-read-requires-clause-outs
run_threads-read-requires-clause-outs g c κs within =
    c.requires.outs ∙ (sym (desks-length _ 0 c.args.queues.now c.args.desks.now.items c.args.ports.now.items c.requires.seated) ∙ sym (ap length c.deref_mut.ensures.value))

pub run_threads-read-requires-clause-clocks : goal.run_threads-read-requires-clause-clocks
run_threads-read-requires-clause-clocks g c κs within =
    c.requires.clocks ∙ (sym (desks-length _ 0 c.args.queues.now c.args.desks.now.items c.args.ports.now.items c.requires.seated) ∙ sym (ap length c.deref_mut.ensures.value))

pub run_threads-read-requires-clause-desks : goal.run_threads-read-requires-clause-desks
run_threads-read-requires-clause-desks g c κs within =
    subst (λ (l : List (Desk g.row.P.Denot)). AreStations (g.H.JobHouse.calls c.args.house.now) c.args.queues.now l) (sym c.deref_mut.ensures.value)
    (are_stations (g.H.JobHouse.calls c.args.house.now) 0 c.args.queues.now c.args.desks.now.items c.args.ports.now.items c.requires.seated)

pub run_threads-read-requires-clause-ports : goal.run_threads-read-requires-clause-ports
run_threads-read-requires-clause-ports g c κs within =
    subst (λ (l : List Port). ArePorts c.args.config.now c.args.queues.now l) (sym c.deref_mut-2.ensures.value)
    (subst (λ (config : Config). ArePorts config c.args.queues.now c.args.ports.now.items) (sym c.requires.config.0)
    (are_ports (g.H.JobHouse.calls c.args.house.now) c.args.queues.now c.args.desks.now.items c.args.ports.now.items c.requires.seated))

pub run_threads-read-requires-clause-all : goal.run_threads-read-requires-clause-all
run_threads-read-requires-clause-all g c κs within =
    ap length c.deref_mut-2.ensures.value
    ∙ (sym (ports-length _ 0 c.args.queues.now c.args.desks.now.items c.args.ports.now.items c.requires.seated) ∙ c.requires.all)

pub finish_all-requires-clause-left : goal.finish_all-requires-clause-left
finish_all-requires-clause-left g c =
    let told : g.row.O.Denot → OutState = λ o. record { sent = g.O.Outbox.sent o; faults = g.O.Outbox.faults o } in
    left_of told g.T.Clock.times (g.H.JobHouse.calls c.args.house.now) c.args.queues.now c.args.desks.now.items c.deref_mut.result.now c.run_threads-read.new.desks _
    c.args.outs.now c.run_threads-read.new.outs c.args.clocks.now c.run_threads-read.new.clocks c.args.ports.now.items c.deref_mut-2.result.now c.run_threads-read.new.ports _
    c.args.desks.now.len c.args.ports.now.len c.run_threads-read.ensures.dispatcher.dispatched
    c.deref_mut.ensures.value c.deref_mut-2.ensures.value c.requires.seated c.run_threads-read.ensures.dispatcher.ports c.run_threads-read.ensures.workers
    c.requires.outs c.requires.clocks
    (omega (arith, c.run_threads-read.auto.outs)) (omega (arith, c.run_threads-read.auto.clocks)) (omega (arith, c.run_threads-read.auto.desks))
    (omega (arith, c.run_threads-read.auto.desks, c.deref_mut.ensures.len)) (omega (arith, c.run_threads-read.auto.ports, c.deref_mut-2.ensures.len))

pub returns-clause-runs : goal.returns-clause-runs
returns-clause-runs g c =
    let told : g.row.O.Denot → OutState = λ o. record { sent = g.O.Outbox.sent o; faults = g.O.Outbox.faults o } in
    let desks = desks-length _ 0 c.args.queues.now c.args.desks.now.items c.args.ports.now.items c.requires.seated in
    runs_all told g.T.Clock.times (g.H.JobHouse.calls c.args.house.now) c.args.config.now _ _ _ _ _ _ c.run_threads-read.result c.args.queues.now
    c.args.desks.now.items c.deref_mut.result.now c.run_threads-read.new.desks _ c.args.outs.now c.run_threads-read.new.outs _ c.args.clocks.now c.run_threads-read.new.clocks _
    _ _ _ _ c.deref_mut-2.result.now c.run_threads-read.new.ports _ _ _ _ _
    c.deref_mut.ensures.value
    (take_front c.args.desks.now.len c.run_threads-read.new.desks _ (omega (arith, c.run_threads-read.auto.desks, c.deref_mut.ensures.len)))
    c.new-noise.ensures
    c.deref_mut-2.ensures.value
    (take_front c.args.ports.now.len c.run_threads-read.new.ports _ (omega (arith, c.run_threads-read.auto.ports, c.deref_mut-2.ensures.len)))
    c.requires.seated (c.requires.outs ∙ sym desks) (c.requires.clocks ∙ sym desks)
    c.run_threads-read.ensures.dispatcher c.run_threads-read.ensures.workers c.run_threads-read.ensures.lanes c.finish_all.ensures.done
