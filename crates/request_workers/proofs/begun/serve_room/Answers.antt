use Rattle.std.proofs.Common.{◌∙◌, length, sym, ap, arith}
use Rattle.request_workers.proofs.BegunLemmas.{none_waiting, nothing_put, of_runs, passes_of, queues-length, seated_of}
use Rattle.request_workers.proofs.begun.serve_room.Goals as goal

-- there are as many queues as external addresses
pub run_seated-read-requires-clause-all : goal.run_seated-read-requires-clause-all
run_seated-read-requires-clause-all g c κs within =
    ap length c.deref.ensures.value
    ∙ (queues-length _ _ _ _ _ _ _ _ c.requires.room.queues.0 c.requires.room.desks.0 c.requires.room.ports.0 c.seat_all.ensures.seats ∙ c.requires.all)

pub run_seated-read-requires-clause-outs : goal.run_seated-read-requires-clause-outs
run_seated-read-requires-clause-outs g c κs within = c.requires.outs ∙ sym (run_seated-read-requires-clause-all g c κs within)

pub run_seated-read-requires-clause-clocks : goal.run_seated-read-requires-clause-clocks
run_seated-read-requires-clause-clocks g c κs within = c.requires.clocks ∙ sym (run_seated-read-requires-clause-all g c κs within)

pub run_seated-read-requires-clause-passes : goal.run_seated-read-requires-clause-passes
run_seated-read-requires-clause-passes g c κs within =
    let all = run_seated-read-requires-clause-all g c κs within in
    omega (arith, all, c.requires.all, c.seat_all.new.passes.ok.0, ap length c.seat_all.ensures.empty, c.seat_all.ensures.room, c.args.passes.now.ok.0, c.args.passes.now.ok.1)

pub run_seated-read-requires-clause-rows : goal.run_seated-read-requires-clause-rows
run_seated-read-requires-clause-rows g c κs within =
    let all = run_seated-read-requires-clause-all g c κs within in
    omega (arith, all, c.args.room.rows.ok.0, ap length c.requires.room.rows.0, c.requires.room.rows.1)

pub returns : goal.returns
returns g c = record {
  told_to = c.begin_announcer-announcer.new.pass;
  clock_then = g.T.Clock.times c.begin_announcer-announcer.new.clock;
  schedule = c.begin_announcer-announcer.result;
  begins = c.begin_announcer-announcer.ensures.begins;
  ports = c.seat_all.new.ports.items;
  nothing = nothing_put _ 0 _ _ _
      (seated_of _ _ _ _ _ _ _ _ c.requires.room.queues.0 c.requires.room.desks.0 c.requires.room.ports.0 c.seat_all.ensures.seats);
  none_waits = none_waiting _ 0 _ _ _
      (seated_of _ _ _ _ _ _ _ _ c.requires.room.queues.0 c.requires.room.desks.0 c.requires.room.ports.0 c.seat_all.ensures.seats);
  schedule_at_end = c.run_seated-read.new.announcer;
  runs = of_runs _ _ _ _ _ _ _ _ _ _ _ _ _ _ _ _ _ _ _ _ _
      (passes_of _ _ _ _ _ _ _ _ c.requires.room.desks.0 c.seat_all.ensures.seats) c.seat_all.ensures.empty c.requires.room.rows.0
      c.run_seated-read.ensures.runs;
}
