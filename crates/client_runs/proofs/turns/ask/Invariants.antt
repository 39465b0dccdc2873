use Rattle.std.proofs.Common.{◌-◌, ◌≤◌}
use Rattle.client_runs.specs.declared.turns.TheConstants.{MOST_TURNS}
use Rattle.client_runs.specs.Underway.{IsUnderway}
use Rattle.client_runs.proofs.turns.ask.Given as goal

-- so many turns went by
abbrev pub invariant-loop-count : goal.invariant-loop-count
invariant-loop-count g l = record {
  most : l.count ≤ MOST_TURNS;
  underway : IsUnderway g.A.Asker.asking l.target l.fn.asker l.start_ms
      (record {
        left = g.I.Inbox.left l.fn.from;
        faults = g.I.Inbox.faults l.fn.from;
        times = g.T.Clock.times l.fn.clock;
        drawing = record { words = g.E.Entropy.words l.fn.entropy; faults = g.E.Entropy.faults l.fn.entropy };
        sending = record { sent = g.O.Outbox.sent l.fn.up; faults = g.O.Outbox.faults l.fn.up };
      }) l.count l.asker l.tries
      (record {
        left = g.I.Inbox.left l.from;
        faults = g.I.Inbox.faults l.from;
        times = g.T.Clock.times l.clock;
        drawing = record { words = g.E.Entropy.words l.entropy; faults = g.E.Entropy.faults l.entropy };
        sending = record { sent = g.O.Outbox.sent l.up; faults = g.O.Outbox.faults l.up };
      });
}

abbrev pub decreases-loop-count : goal.decreases-loop-count
decreases-loop-count g l = MOST_TURNS - l.count
