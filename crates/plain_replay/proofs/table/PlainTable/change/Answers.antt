use Rattle.std.proofs.Common.{sym, subst, not, Bool}
use Rattle.std.specs.List.{AllByRecursion}
use Rattle.pcp_base.specs.declared.leases.MapLease.{MapLease}
use Rattle.pcp_base.specs.Tables.{IsMapLease, first_endpoint, is_map_of, put}
use Rattle.pcp_base.specs.Records.{IsWellFormedChange}
use Rattle.pcp_base.proofs.Members.{All-filter}
use Rattle.pcp_base.proofs.Puts.{put_All, put_or_kept}
use Rattle.plain_replay.proofs.table.PlainTable.change.Goals as goal

pub invariant_of-self-in-Map-1 : goal.invariant_of-self-in-Map-1
invariant_of-self-in-Map-1 c =
    let test : MapLease → Bool = is_map_of (first_endpoint c.in-Map.lease) in
    let formed : IsMapLease c.in-Map.lease = (subst (IsWellFormedChange c.args.kept.now.moment) c.in-Map.is c.requires.change).0 in
    put_or_kept IsMapLease c.self.inside.maps.items (put test c.in-Map.lease c.self.inside.maps.items) c.put_map.new.maps.items
    c.put_map.result c.put_map.ensures.ok c.put_map.ensures.err c.self.invariant (put_All IsMapLease test c.in-Map.lease c.self.inside.maps.items formed c.self.invariant)

pub invariant_of-self-in-DropMap-1 : goal.invariant_of-self-in-DropMap-1
invariant_of-self-in-DropMap-1 c =
    let test : MapLease → Bool = λ l. not (is_map_of c.in-DropMap.key l) in
    subst (AllByRecursion IsMapLease) (sym c.drop_map.ensures) (All-filter IsMapLease test c.self.inside.maps.items c.self.invariant)
