use Rattle.std.proofs.Common.{take}
use Rattle.job_workers.specs.Sends.{HandsOn}
use Rattle.job_workers.proofs.sends.send_all.Given as goal

abbrev pub invariant-loop-i : goal.invariant-loop-i
invariant-loop-i g l =
    HandsOn (take l.i l.replies) l.sends (g.O.Outbox.sent l.fn.out) (g.O.Outbox.sent l.out)
    (g.O.Outbox.faults l.fn.out) (g.O.Outbox.faults l.out)
