use Rattle.std.proofs.Common.{None, Some, subst}
use Rattle.pcp_base.specs.Tables.{Table}
use Rattle.peer_table.specs.PeerLists.{IsPortUse}
use Rattle.indexed_store.proofs.LookLemmas.{none_named, port_named}
use Rattle.indexed_store.proofs.Views.{found_is}
use Rattle.indexed_store.proofs.leases.Leases.named_port_counted.Goals as goal

pub returns-in_default-clause-port : goal.returns-in_default-clause-port
returns-in_default-clause-port g c = none_named c.args.self.now.found c.args.endpoint.now c.args.m (subst (λ (t : Table). IsPortUse c.args.endpoint.now c.args.m t.peers None) (found_is c.self.view_is) c.in_default.ensures.used)

pub returns-clause-port : goal.returns-clause-port
returns-clause-port g c = port_named c.args.self.now.found c.args.endpoint.now c.args.m c.requires c.in-Some.used (subst (λ (t : Table). IsPortUse c.args.endpoint.now c.args.m t.peers (Some c.in-Some.used)) (found_is c.self.view_is) c.in-Some.ensures.used)
