use Rattle.std.proofs.Common.{sym, ◌∙◌, subst}
use Rattle.std.specs.List.{AllByRecursion}
use Rattle.pcp_base.specs.Tables.{IsMapLease}
use Rattle.indexed_store.proofs.leases.Leases.live_owners.Goals as goal

pub add_owners_of_maps-requires : goal.add_owners_of_maps-requires
add_owners_of_maps-requires c = subst (AllByRecursion IsMapLease) (sym (c.deref.ensures.value ∙ c.in_ok-maps.ensures)) c.requires
