use Rattle.std.proofs.Common.{◌∙◌, ap, sym, subst, filter, Bool}
use Rattle.std.specs.List.{AllByRecursion}
use Rattle.pcp_base.specs.declared.leases.MapLease.{MapLease}
use Rattle.pcp_base.specs.Tables.{IsMapLease, is_map_of}
use Rattle.pcp_base.proofs.Members.{All-filter}
use Rattle.plain_replay.proofs.table.PlainTable.deleted.Goals as goal

pub invariant_of-result : goal.invariant_of-result
invariant_of-result c =
    let test : MapLease → Bool = is_map_of c.in-DropMap.key in
    subst (AllByRecursion IsMapLease) (sym (c.in_ok-maps_of-in-DropMap.ensures ∙ ap (filter test) c.deref.ensures.value)) (All-filter IsMapLease test c.self.inside.maps.items c.self.invariant)
