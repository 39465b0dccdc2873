use Rattle.std.proofs.Common.{◌≡◌, ◌++◌, map, filter, drop}
use Rattle.std.specs.List.{AllByRecursion, filter_map}
use Rattle.pcp_base.specs.Records.{IsWellFormedRecord}
use Rattle.pcp_base.specs.Snapshots.{peer_record}
use Rattle.ordered_index.specs.Aged.{aged}
use Rattle.peer_table.specs.PeerLists.{is_live_peer}
use Rattle.peer_table.specs.Kept.{live_with}
use Rattle.peer_table.proofs.lists.append_records.Given as goal

abbrev pub invariant-loop-number : goal.invariant-loop-number
invariant-loop-number g l = record {
  told : g.K.RecordSink.taken l.out ++ map (peer_record l.m) (filter_map (live_with l.m l.leases l.past) (drop l.number-index l.number-items))
      ≡ g.K.RecordSink.taken l.fn.out ++ map (peer_record l.m) (filter (is_live_peer l.m) (aged l.leases l.past).all);
  formed : AllByRecursion IsWellFormedRecord (map (peer_record l.m) (filter_map (live_with l.m l.leases l.past) (drop l.number-index l.number-items)));
}
