use Rattle.std.proofs.Common.{None, Some, subst}
use Rattle.pcp_base.specs.Tables.{Table}
use Rattle.peer_table.specs.PeerLists.{IsPortUse}
use Rattle.indexed_store.proofs.LookLemmas.{none_count, named_count}
use Rattle.indexed_store.proofs.Views.{found_is}
use Rattle.indexed_store.proofs.leases.Leases.peer_count_counted.Goals as goal

pub returns-in_default-clause-count : goal.returns-in_default-clause-count
returns-in_default-clause-count g c = none_count c.args.self.now.found c.args.endpoint.now c.args.m (subst (λ (t : Table). IsPortUse c.args.endpoint.now c.args.m t.peers None) (found_is c.self.view_is) c.in_default.ensures.used)

pub returns-clause-count : goal.returns-clause-count
returns-clause-count g c = named_count c.args.self.now.found c.args.endpoint.now c.args.m c.in-Some.used (subst (λ (t : Table). IsPortUse c.args.endpoint.now c.args.m t.peers (Some c.in-Some.used)) (found_is c.self.view_is) c.in-Some.ensures.used)
