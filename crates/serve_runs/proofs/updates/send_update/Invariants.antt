use Rattle.std.proofs.Common.{take}
use Rattle.pcp_announce.specs.Doors.{doors}
use Rattle.serve_runs.specs.Updates.{Hands}
use Rattle.serve_runs.proofs.HandLemmas.{by_reaching}
use Rattle.serve_runs.proofs.updates.send_update.Given as goal

abbrev pub invariant-loop-place : goal.invariant-loop-place
invariant-loop-place g l =
    Hands (by_reaching l.update (take l.place (doors l.config)))
    (record { sent = g.O.Outbox.sent l.fn.out; faults = g.O.Outbox.faults l.fn.out })
    (record { sent = g.O.Outbox.sent l.out; faults = g.O.Outbox.faults l.out })
