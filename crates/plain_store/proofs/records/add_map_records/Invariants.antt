use Rattle.std.proofs.Common.{◌≡◌, ◌++◌, map, take}
use Rattle.pcp_base.specs.Snapshots.{map_record}
use Rattle.plain_store.proofs.records.add_map_records.Given as goal

abbrev pub invariant-loop-lease : goal.invariant-loop-lease
invariant-loop-lease g l = g.K.RecordSink.taken l.out ≡ g.K.RecordSink.taken l.fn.out ++ map (map_record l.m) (take l.lease-index l.maps)
