use Rattle.std.proofs.Common.{◌∙◌, ap, sym, subst, filter, nat_lt, Bool}
use Rattle.std.specs.List.{AllByRecursion}
use Rattle.pcp_base.specs.declared.leases.MapLease.{MapLease}
use Rattle.pcp_base.specs.Tables.{IsMapLease}
use Rattle.pcp_base.proofs.Members.{All-filter}
use Rattle.plain_replay.proofs.table.PlainTable.live.Goals as goal

pub invariant_of-result : goal.invariant_of-result
invariant_of-result c =
    let test : MapLease → Bool = λ l. nat_lt c.args.m l.expiry in
    subst (AllByRecursion IsMapLease) (sym (c.in_ok-live_maps.ensures ∙ ap (filter test) c.deref.ensures.value)) (All-filter IsMapLease test c.self.inside.maps.items c.self.invariant)
