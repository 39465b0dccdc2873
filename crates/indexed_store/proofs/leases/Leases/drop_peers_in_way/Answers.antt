use Rattle.std.proofs.Common.{nat_lt, sym, ◌∙◌}
use Rattle.pcp_base.specs.declared.leases.PeerLease.{PeerLease}
use Rattle.pcp_base.specs.Tables.{names}
use Rattle.peer_table.specs.PeerLists.{overlaps}
use Rattle.indexed_store.proofs.OverlappedDead.{peer-clear}
use Rattle.indexed_store.proofs.WayLemmas.{count-all, none-overlap}
use Rattle.indexed_store.proofs.leases.Leases.drop_peers_in_way.Goals as goal

pub returns-then-not-has_ended_peer-clause-apart : goal.returns-then-not-has_ended_peer-clause-apart
returns-then-not-has_ended_peer-clause-apart g c =
    peer-clear c.sound_tables_have_sound_peers.ensures c.args.m c.args.self.now.found c.args.lease.now c.requires.after
    (sym c.has_ended_peer.ensures.ended ∙ c.if-not-has_ended_peer.true)

pub returns-then-not-has_ended_peer-clause-of_endpoint : goal.returns-then-not-has_ended_peer-clause-of_endpoint
returns-then-not-has_ended_peer-clause-of_endpoint g c =
    count-all (λ (l : PeerLease). names l c.args.lease.now.endpoint) (λ (l : PeerLease). nat_lt c.args.m l.expiry) c.args.self.now.found.peers
    (sym c.has_ended_peer.ensures.ended ∙ c.if-not-has_ended_peer.true)

pub returns-clause-apart : goal.returns-clause-apart
returns-clause-apart g c =
    none-overlap (overlaps c.args.lease.now) c.drop_overlapped_peers.new.self.found.peers c.drop_ended_of.new.self.found.peers c.drop_ended_of.ensures.peers_from c.drop_overlapped_peers.ensures.apart
