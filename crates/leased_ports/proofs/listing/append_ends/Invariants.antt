use Rattle.std.proofs.Common.{◌≡◌, ◌++◌, map}
use Rattle.pcp_base.specs.Snapshots.{end_record}
use Rattle.leased_ports.specs.Listed.{listed}
use Rattle.leased_ports.proofs.CopyLemmas.{run_ends}
use Rattle.leased_ports.proofs.listing.append_ends.Given as goal

abbrev pub invariant-loop-i : goal.invariant-loop-i
invariant-loop-i g l = g.K.RecordSink.taken l.out ≡ g.K.RecordSink.taken l.fn.out ++ map (end_record l.m) (listed (run_ends l.run) l.run.first l.i)
