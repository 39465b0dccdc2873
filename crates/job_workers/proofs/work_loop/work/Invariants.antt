use Rattle.std.proofs.Common.{◌≡◌, []}
use Rattle.job_workers.specs.Gatherings.{HasWorked, IsDesk}
use Rattle.job_workers.proofs.work_loop.work.Given as goal

abbrev pub invariant-loop : goal.invariant-loop
invariant-loop g l =
    (goal.iterator-loop g).can_next l.iterator' × (goal.iterator-loop g).is_finite l.iterator'
    × IsDesk (g.H.JobHouse.calls l.house) l.queue l.desk.pass l.desk.taker × (l.desk.batch ≡ [])
    × HasWorked (g.H.JobHouse.calls l.house)
    (record {
      pass = l.fn.desk.pass;
      row = l.fn.desk.row;
      sent = g.O.Outbox.sent l.fn.out;
      faults = g.O.Outbox.faults l.fn.out;
      times = g.T.Clock.times l.fn.clock;
    })
    (record {
      pass = l.desk.pass;
      row = l.desk.row;
      sent = g.O.Outbox.sent l.out;
      faults = g.O.Outbox.faults l.out;
      times = g.T.Clock.times l.clock;
    })
    l.fn.desk.taker l.desk.taker
