use Rattle.pcp_announce.specs.Doors.{groups}
use Rattle.job_dispatch.specs.declared.ports.TheConstants.{ANNOUNCEMENT_PORT}
use Rattle.job_dispatch.proofs.DispatchingLemmas.{HasDispatched}
use Rattle.job_dispatch.proofs.dispatching.dispatch_items.Given as goal

abbrev pub invariant-loop : goal.invariant-loop
invariant-loop g l =
    (goal.iterator-loop g).can_next l.iterator' × (goal.iterator-loop g).is_finite l.iterator'
    × HasDispatched (g.H.JobHouse.calls l.house) l.config l.queues (groups l.config) ANNOUNCEMENT_PORT
    (record {
      ports = l.fn.ports;
      noise = l.fn.noise;
      announcing = record {
        pass = l.fn.pass;
        schedule = l.fn.announcer;
        sent = g.O.Outbox.sent l.fn.out;
        faults = g.O.Outbox.faults l.fn.out;
        times = g.T.Clock.times l.fn.clock;
      };
      left = g.I.Inbox.left l.fn.inbox;
      faults = g.I.Inbox.faults l.fn.inbox;
    })
    (record {
      ports = l.ports;
      noise = l.noise;
      announcing = record {
        pass = l.pass;
        schedule = l.announcer;
        sent = g.O.Outbox.sent l.out;
        faults = g.O.Outbox.faults l.out;
        times = g.T.Clock.times l.clock;
      };
      left = g.I.Inbox.left l.inbox;
      faults = g.I.Inbox.faults l.inbox;
    })
