use Rattle.std.proofs.Common.{nat_lt, sym, ap, ◌∙◌}
use Rattle.pcp_base.specs.Tables.{Table, is_peer_of}
use Rattle.peer_table.specs.PeerLists.{peer_with_key}
use Rattle.indexed_store.proofs.Uniques.{none-within, one-within, gone-within, one-peer}
use Rattle.indexed_store.proofs.Views.{found_is}
use Rattle.indexed_store.proofs.leases.Leases.peering_counted.Goals as goal

pub returns-in_default-clause-lease : goal.returns-in_default-clause-lease
returns-in_default-clause-lease g c =
    let found = c.in_default.ensures.lease ∙ ap (λ (t : Table). peer_with_key c.args.endpoint.now c.args.remote.now c.args.remote_port t.peers) (found_is c.self.view_is) in
    sym (none-within (is_peer_of c.args.endpoint.now c.args.remote.now c.args.remote_port) (λ l. nat_lt c.args.m l.expiry) c.args.self.now.found.peers (sym found))

pub returns-then-is_live-clause-lease : goal.returns-then-is_live-clause-lease
returns-then-is_live-clause-lease g c =
    let found = c.in-Some.ensures.lease ∙ ap (λ (t : Table). peer_with_key c.args.endpoint.now c.args.remote.now c.args.remote_port t.peers) (found_is c.self.view_is) in
    sym (one-within (is_peer_of c.args.endpoint.now c.args.remote.now c.args.remote_port) (λ l. nat_lt c.args.m l.expiry) c.args.self.now.found.peers c.in-Some.lease.now (sym found) (sym c.is_live.ensures ∙ c.if-is_live.true))

pub returns-else-is_live-clause-lease : goal.returns-else-is_live-clause-lease
returns-else-is_live-clause-lease g c =
    let found = c.in-Some.ensures.lease ∙ ap (λ (t : Table). peer_with_key c.args.endpoint.now c.args.remote.now c.args.remote_port t.peers) (found_is c.self.view_is) in
    sym (gone-within (is_peer_of c.args.endpoint.now c.args.remote.now c.args.remote_port) (λ l. nat_lt c.args.m l.expiry) c.args.self.now.found.peers c.in-Some.lease.now
    (one-peer c.args.endpoint.now c.args.remote.now c.args.remote_port c.args.self.now.found c.requires) (sym found) (sym c.is_live.ensures ∙ c.if-is_live.false))
