use Rattle.std.proofs.Common.{sym, filter, nat_lt, Bool}
use Rattle.pcp_base.specs.declared.leases.MapLease.{MapLease}
use Rattle.pcp_base.specs.Tables.{IsMapLease}
use Rattle.pcp_base.proofs.Members.{All-filter, All-IsIn, find-some}
use Rattle.filter_rules.specs.Filters.{allows}
use Rattle.pcp_base.specs.Owners.{owns}
use Rattle.plain_store.proofs.lookups.behind_map.Goals as goal

pub endpoint_behind-requires : goal.endpoint_behind-requires
endpoint_behind-requires c =
    let alive : MapLease → Bool = λ l. nat_lt c.args.m l.expiry in
    let passes : MapLease → Bool = λ l. allows l.filters c.args.remote.now c.args.remote_port in
    let those = filter passes (filter alive c.args.maps.now) in
    let found = find-some (owns c.args.protocol c.args.port) those c.in-Some.lease (sym c.in-Some.ensures) in
    let formed = All-IsIn IsMapLease those c.in-Some.lease (All-filter IsMapLease passes (filter alive c.args.maps.now) (All-filter IsMapLease alive c.args.maps.now c.requires)) found.0 in
    record { ports = formed.ports; owned = found.1 }
