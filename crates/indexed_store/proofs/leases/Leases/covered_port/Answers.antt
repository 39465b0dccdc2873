use Rattle.std.proofs.Common.{nat_lt, filter, sym}
use Rattle.pcp_base.specs.declared.leases.MapLease.{MapLease}
use Rattle.pcp_base.specs.Tables.{IsMapLease, covers}
use Rattle.pcp_base.proofs.Members.{find-some, IsIn-filter, All-IsIn}
use Rattle.pcp_base.proofs.TableLemmas.{IsCovered-from_covers}
use Rattle.indexed_store.proofs.leases.Leases.covered_port.Goals as goal

pub port_behind-requires-clause-ports : goal.port_behind-requires-clause-ports
port_behind-requires-clause-ports c =
    let ls = c.args.self.now.found.maps in
    let f = find-some (λ l. covers l c.args.endpoint.now) (filter (λ (l : MapLease). nat_lt c.args.m l.expiry) ls) c.in-Some.lease (sym c.in-Some.ensures) in
    (All-IsIn IsMapLease ls c.in-Some.lease c.requires.maps.leases (IsIn-filter (λ (l : MapLease). nat_lt c.args.m l.expiry) ls c.in-Some.lease f.0).0).ports

pub port_behind-requires-clause-from : goal.port_behind-requires-clause-from
port_behind-requires-clause-from c =
    (IsCovered-from_covers c.in-Some.lease c.args.endpoint.now (find-some (λ l. covers l c.args.endpoint.now) (filter (λ (l : MapLease). nat_lt c.args.m l.expiry) c.args.self.now.found.maps) c.in-Some.lease (sym c.in-Some.ensures)).1).from

pub port_behind-requires-clause-below : goal.port_behind-requires-clause-below
port_behind-requires-clause-below c =
    (IsCovered-from_covers c.in-Some.lease c.args.endpoint.now (find-some (λ l. covers l c.args.endpoint.now) (filter (λ (l : MapLease). nat_lt c.args.m l.expiry) c.args.self.now.found.maps) c.in-Some.lease (sym c.in-Some.ensures)).1).below
