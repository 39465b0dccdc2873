use Rattle.std.proofs.Common.{◌≡◌, ◌++◌, map, take}
use Rattle.pcp_base.specs.Snapshots.{peer_record}
use Rattle.plain_store.proofs.records.add_peer_records.Given as goal

abbrev pub invariant-loop-lease : goal.invariant-loop-lease
invariant-loop-lease g l = g.K.RecordSink.taken l.out ≡ g.K.RecordSink.taken l.fn.out ++ map (peer_record l.m) (take l.lease-index l.peers)
