use Rattle.std.proofs.Common.{◌≡◌, ◌++◌, map, take}
use Rattle.pcp_base.specs.Snapshots.{end_record}
use Rattle.plain_store.proofs.records.add_end_records.Given as goal

abbrev pub invariant-loop-end : goal.invariant-loop-end
invariant-loop-end g l = g.K.RecordSink.taken l.out ≡ g.K.RecordSink.taken l.fn.out ++ map (end_record l.m) (take l.end-index l.ends)
