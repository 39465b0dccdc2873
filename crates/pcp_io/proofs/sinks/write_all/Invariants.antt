use Rattle.std.proofs.Common.{length, ◌-◌}
use Rattle.pcp_io.proofs.KnownOctets.{HasTaken}
use Rattle.pcp_io.proofs.sinks.write_all.Given as goal

abbrev pub invariant-loop-taken : goal.invariant-loop-taken
invariant-loop-taken g l =
    HasTaken (g.W.Sink.held l.fn.sink) (g.W.Sink.held l.sink) l.octets l.taken (g.W.Sink.faults l.fn.sink) (g.W.Sink.faults l.sink)

abbrev pub decreases-loop-taken : goal.decreases-loop-taken
decreases-loop-taken g l = length l.octets - l.taken
