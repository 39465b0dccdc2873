use Rattle.std.proofs.Common.{filter, Bool, sym}
use Rattle.pcp_base.specs.declared.leases.MapLease.{MapLease}
use Rattle.pcp_base.specs.Tables.{IsMapLease, live}
use Rattle.pcp_base.proofs.Members.{find-some, IsIn-filter, All-IsIn}
use Rattle.filter_rules.specs.Filters.{allows}
use Rattle.pcp_base.specs.Owners.{owns}
use Rattle.indexed_store.proofs.leases.Leases.behind_map.Goals as goal

pub endpoint_behind-requires-clause-ports : goal.endpoint_behind-requires-clause-ports
endpoint_behind-requires-clause-ports c =
    let lets : MapLease → Bool = λ l. allows l.filters c.args.remote.now c.args.remote_port in
    let ls = (live c.args.self.now.all c.args.m).maps in
    let f = find-some (owns c.args.protocol c.args.port) (filter lets ls) c.in-Some.lease (sym c.in-Some.ensures) in
    (All-IsIn IsMapLease ls c.in-Some.lease c.requires.sound.maps.leases (IsIn-filter lets ls c.in-Some.lease f.0).0).ports

pub endpoint_behind-requires-clause-owned : goal.endpoint_behind-requires-clause-owned
endpoint_behind-requires-clause-owned c =
    let lets : MapLease → Bool = λ l. allows l.filters c.args.remote.now c.args.remote_port in
    (find-some (owns c.args.protocol c.args.port) (filter lets (live c.args.self.now.all c.args.m).maps) c.in-Some.lease (sym c.in-Some.ensures)).1
