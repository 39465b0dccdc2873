use Rattle.relay_runs.proofs.TurnLemmas.{HasRun}
use Rattle.relay_runs.proofs.runs.run_relay.Given as goal

abbrev pub invariant-loop : goal.invariant-loop
invariant-loop g l =
    (goal.iterator-loop g).can_next l.iterator' × (goal.iterator-loop g).is_finite l.iterator'
    × HasRun g.M.RelayMachine.machine l.server l.fn.machine l.machine
    (record {
      outs = record {
        down = record { sent = g.O.Outbox.sent l.fn.down; faults = g.O.Outbox.faults l.fn.down };
        up = record { sent = g.O.Outbox.sent l.fn.up; faults = g.O.Outbox.faults l.fn.up };
      };
      left = g.I.Inbox.left l.fn.from;
      faults = g.I.Inbox.faults l.fn.from;
      times = g.T.Clock.times l.fn.clock;
    })
    (record {
      outs = record {
        down = record { sent = g.O.Outbox.sent l.down; faults = g.O.Outbox.faults l.down };
        up = record { sent = g.O.Outbox.sent l.up; faults = g.O.Outbox.faults l.up };
      };
      left = g.I.Inbox.left l.from;
      faults = g.I.Inbox.faults l.from;
      times = g.T.Clock.times l.clock;
    })
