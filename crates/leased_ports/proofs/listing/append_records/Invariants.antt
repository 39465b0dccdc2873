use Rattle.std.proofs.Common.{◌-◌}
use Rattle.leased_ports.proofs.CopyLemmas.{IsRecorded}
use Rattle.leased_ports.proofs.listing.append_records.Given as goal

abbrev pub invariant-loop-run : goal.invariant-loop-run
invariant-loop-run g l = IsRecorded l.m l.ends (g.K.RecordSink.taken l.fn.out) l.from (g.K.RecordSink.taken l.out)

abbrev pub decreases-loop-run : goal.decreases-loop-run
decreases-loop-run g l = 131072 - l.from
