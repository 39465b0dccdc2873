use Rattle.std.specs.Map.{values_of}
use Rattle.std.proofs.Common.{List, sym, subst}
use Rattle.std.specs.Option.{option_copied}
use Rattle.pcp_base.specs.declared.leases.MapLease.{MapLease}
use Rattle.mapping_table.specs.Kept.{filters_at}
use Rattle.mapping_table.specs.MapLists.{IsDeadMap}
use Rattle.mapping_table.proofs.Wholes.{dead_whole}
use Rattle.mapping_table.proofs.Views.{found_is}
use Rattle.mapping_table.proofs.table.MapTable.one_ended.Goals as goal

pub returns-clause-ended : goal.returns-clause-ended
returns-clause-ended g c =
    let kept = filters_at c.self.inside.filters in let m = c.args.m in
    subst (λ (v : List MapLease). IsDeadMap m v c.whole_by_look.result) (found_is c.self.view_is)
    (subst (IsDeadMap m _) (sym c.whole_by_look.ensures.lease) (dead_whole kept (values_of c.self.inside.leases.entries) m (option_copied c.one_ended-found.result) c.one_ended-found.ensures.ended))
