use Rattle.std.proofs.Common.{List, subst}
use Rattle.pcp_base.specs.declared.leases.PeerLease.{PeerLease}
use Rattle.peer_table.specs.PeerLists.{IsLastExpiry}
use Rattle.peer_table.proofs.FewOpenings.{few_openings}
use Rattle.peer_table.proofs.LastExpiries.{openings_forward, last_told}
use Rattle.peer_table.proofs.Views.{found_is}
use Rattle.peer_table.proofs.table.PeerTable.last_expiry.Goals as goal

pub last_expiry-requires-clause-forward : goal.last_expiry-requires-clause-forward
last_expiry-requires-clause-forward g c = openings_forward c.args.protocol c.args.port c.opening_bound-from.result c.opening_bound-to.result c.opening_bound-from.ensures c.opening_bound-to.ensures

pub last_expiry-requires-clause-few : goal.last_expiry-requires-clause-few
last_expiry-requires-clause-few g c = few_openings c.args.protocol c.args.port c.self.inside.kept c.self.invariant.kept c.opening_bound-from.result c.opening_bound-to.result c.opening_bound-from.ensures c.opening_bound-to.ensures

pub returns-clause-last : goal.returns-clause-last
returns-clause-last g c =
    subst (λ (v : List PeerLease). IsLastExpiry c.args.protocol c.args.port v c.last_expiry.result) (found_is c.self.view_is)
    (last_told c.args.protocol c.args.port c.opening_bound-from.result c.opening_bound-to.result c.opening_bound-from.ensures c.opening_bound-to.ensures c.self.inside.kept c.self.invariant.kept c.last_expiry.result c.last_expiry.ensures.last)
