use Rattle.std.proofs.Common.{◌≡◌, ◌≤◌}
use Rattle.job_dispatch.proofs.LossLemmas.{HasPutLate}
use Rattle.job_dispatch.proofs.losses.put_all_waiting.Given as goal

abbrev pub invariant-loop : goal.invariant-loop
invariant-loop g l =
    (goal.iterator-loop g).can_next l.iterator' × (goal.iterator-loop g).is_finite l.iterator'
    × HasPutLate l.config l.queues l.fn.ports l.ports
    × (g.I.Inbox.left l.inbox ≡ g.I.Inbox.left l.fn.inbox)
    × (g.I.Inbox.faults l.fn.inbox ≤ g.I.Inbox.faults l.inbox)
