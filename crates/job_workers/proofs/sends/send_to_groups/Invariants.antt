use Rattle.std.proofs.Common.{take}
use Rattle.std.specs.List.{filter_map}
use Rattle.pcp_announce.specs.Doors.{doors, group_of}
use Rattle.job_workers.specs.Sends.{TellsAll}
use Rattle.job_workers.proofs.sends.send_to_groups.Given as goal

abbrev pub invariant-loop-place : goal.invariant-loop-place
invariant-loop-place g l =
    TellsAll (filter_map group_of (take l.place (doors l.config))) l.port l.octets
    (g.O.Outbox.sent l.fn.out) (g.O.Outbox.sent l.out) (g.O.Outbox.faults l.fn.out) (g.O.Outbox.faults l.out)
