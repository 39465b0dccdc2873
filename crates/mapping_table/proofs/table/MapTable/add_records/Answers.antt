use Rattle.std.proofs.Common.{◌≡◌, ◌++◌, List, OnOk, map, filter, sym, ◌∙◌, subst}
use Rattle.std.specs.List.{AllByRecursion}
use Rattle.pcp_base.specs.declared.leases.MapLease.{MapLease}
use Rattle.pcp_base.specs.Records.{IsWellFormedRecord}
use Rattle.pcp_base.specs.Snapshots.{map_record}
use Rattle.mapping_table.specs.MapLists.{is_live_map}
use Rattle.mapping_table.proofs.AgedMaps.{both_slots, all_slots}
use Rattle.mapping_table.proofs.Views.{all_is}
use Rattle.mapping_table.proofs.table.MapTable.add_records.Goals as goal

pub append_records-requires-clause-both : goal.append_records-requires-clause-both
append_records-requires-clause-both g c =
    both_slots c.self.inside.leases c.self.inside.filters c.self.inside.past c.leases.result.now c.leases.ensures c.tell_order.ensures.ordered c.self.invariant.apart

pub append_records-requires-clause-formed : goal.append_records-requires-clause-formed
append_records-requires-clause-formed g c =
    let same = all_slots c.self.inside.leases c.self.inside.filters c.self.inside.past c.leases.result.now c.leases.ensures ∙ all_is c.self.view_is in
    subst (λ (v : List MapLease). AllByRecursion IsWellFormedRecord (map (map_record c.args.m) (filter (is_live_map c.args.m) v))) (sym same) c.requires

pub returns : goal.returns
returns g c =
    let same = all_slots c.self.inside.leases c.self.inside.filters c.self.inside.past c.leases.result.now c.leases.ensures ∙ all_is c.self.view_is in
    subst (λ (v : List MapLease). OnOk c.append_records.result (g.K.RecordSink.taken c.append_records.new.out ≡ g.K.RecordSink.taken c.args.out.now ++ map (map_record c.args.m) (filter (is_live_map c.args.m) v)))
    same c.append_records.ensures
