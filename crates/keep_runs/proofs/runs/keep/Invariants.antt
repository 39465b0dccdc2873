use Rattle.keep_runs.specs.Steps.{IsUnderway}
use Rattle.keep_runs.proofs.runs.keep.Given as goal

-- turns went by
abbrev pub invariant-loop : goal.invariant-loop
invariant-loop g l =
    (goal.iterator-loop g).can_next l.iterator' × (goal.iterator-loop g).is_finite l.iterator'
    × IsUnderway l.server l.fn.keeper
    (record {
      links = record {
        left = g.I.Inbox.left l.fn.from;
        faults = g.I.Inbox.faults l.fn.from;
        times = g.T.Clock.times l.fn.clock;
        drawing = record { words = g.E.Entropy.words l.fn.entropy; faults = g.E.Entropy.faults l.fn.entropy };
        sending = record { sent = g.O.Outbox.sent l.fn.up; faults = g.O.Outbox.faults l.fn.up };
      };
      held = g.W.Sink.held l.fn.out;
      faults = g.W.Sink.faults l.fn.out;
    })
    l.keeper
    (record {
      links = record {
        left = g.I.Inbox.left l.from;
        faults = g.I.Inbox.faults l.from;
        times = g.T.Clock.times l.clock;
        drawing = record { words = g.E.Entropy.words l.entropy; faults = g.E.Entropy.faults l.entropy };
        sending = record { sent = g.O.Outbox.sent l.up; faults = g.O.Outbox.faults l.up };
      };
      held = g.W.Sink.held l.out;
      faults = g.W.Sink.faults l.out;
    })
