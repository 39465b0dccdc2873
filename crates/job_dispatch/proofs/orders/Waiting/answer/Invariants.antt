use Rattle.std.proofs.Common.{◌≡◌, ◌≤◌}
use Rattle.job_dispatch.proofs.orders.Waiting.answer.Given as goal

abbrev pub invariant-loop-order : goal.invariant-loop-order
invariant-loop-order g l =
    (g.I.Inbox.left l.inbox ≡ g.I.Inbox.left l.fn.inbox)
    × (g.I.Inbox.faults l.fn.inbox ≤ g.I.Inbox.faults l.inbox)
