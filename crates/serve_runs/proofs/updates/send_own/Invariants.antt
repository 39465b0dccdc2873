use Rattle.std.proofs.Common.{flat_map, take}
use Rattle.serve_runs.specs.Updates.{Hands, by_doors}
use Rattle.serve_runs.proofs.updates.send_own.Given as goal

abbrev pub invariant-loop-place : goal.invariant-loop-place
invariant-loop-place g l =
    Hands (flat_map (by_doors l.config) (take l.place l.updates))
    (record { sent = g.O.Outbox.sent l.fn.out; faults = g.O.Outbox.faults l.fn.out })
    (record { sent = g.O.Outbox.sent l.out; faults = g.O.Outbox.faults l.out })
