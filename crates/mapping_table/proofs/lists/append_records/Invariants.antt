use Rattle.std.proofs.Common.{◌≡◌, ◌++◌, map, drop}
use Rattle.std.specs.List.{AllByRecursion, filter_map}
use Rattle.pcp_base.specs.Records.{IsWellFormedRecord}
use Rattle.pcp_base.specs.Snapshots.{map_record}
use Rattle.mapping_table.specs.Kept.{filters_at, live_with}
use Rattle.mapping_table.proofs.lists.append_records.Given as goal

abbrev pub invariant-loop-number : goal.invariant-loop-number
invariant-loop-number g l = record {
  told : g.K.RecordSink.taken l.out ++ map (map_record l.m) (filter_map (live_with l.m (filters_at l.filters) l.leases l.past) (drop l.number-index l.number-items))
      ≡ g.K.RecordSink.taken l.fn.out ++ map (map_record l.m) (filter_map (live_with l.m (filters_at l.filters) l.leases l.past) l.number-items);
  formed : AllByRecursion IsWellFormedRecord (map (map_record l.m) (filter_map (live_with l.m (filters_at l.filters) l.leases l.past) (drop l.number-index l.number-items)));
}
