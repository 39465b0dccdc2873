use Rattle.std.proofs.Common.{◌∙◌, ap, sym, subst, filter, nat_lt, Bool}
use Rattle.std.specs.List.{AllByRecursion}
use Rattle.pcp_base.specs.declared.leases.MapLease.{MapLease}
use Rattle.pcp_base.specs.Tables.{IsMapLease}
use Rattle.pcp_base.proofs.Members.{All-filter}
use Rattle.plain_store.proofs.order.live_owners.Goals as goal

pub owners_of_maps-requires : goal.owners_of_maps-requires
owners_of_maps-requires c =
    let test : MapLease → Bool = λ l. nat_lt c.args.m l.expiry in
    subst (AllByRecursion IsMapLease) (sym (c.deref.ensures.value ∙ c.in_ok-maps.ensures ∙ ap (filter test) c.maps.ensures)) (All-filter IsMapLease test c.args.replay.now.table.maps c.requires.sound.table.maps)
