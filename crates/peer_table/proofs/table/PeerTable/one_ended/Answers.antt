use Rattle.std.proofs.Common.{Contains, Option, List, sym, ap, ◌∙◌, subst}
use Rattle.pcp_base.specs.declared.leases.PeerLease.{PeerLease}
use Rattle.peer_table.specs.PeerLists.{first_dead_peer, IsDeadPeer}
use Rattle.ordered_index.proofs.Endings.{one-none, one-stands, one-among}
use Rattle.peer_table.proofs.Views.{found_is}
use Rattle.peer_table.proofs.table.PeerTable.one_ended.Goals as goal

pub returns-in_default-clause-ended : goal.returns-in_default-clause-ended
returns-in_default-clause-ended g c = record {
  among = tt;
  dead = tt;
  none = ap (first_dead_peer c.args.m) (sym (found_is c.self.view_is)) ∙ one-none (λ (l : PeerLease). l.expiry) c.self.inside.kept.leases c.self.invariant.kept.kept.ordered c.args.m c.in_default.ensures;
}

pub returns-clause-ended : goal.returns-clause-ended
returns-clause-ended g c =
    let t = c.self.inside.kept in
    let y = one-stands (λ (l : PeerLease). l.expiry) t.leases c.self.invariant.kept.kept.ordered c.args.m c.in-Some.number c.in-Some.ensures in
    subst (λ (o : Option PeerLease). IsDeadPeer c.args.m c.args.self.now.found o) (sym (c.lease_at.ensures.lease ∙ y.1)) (record {
      among = subst (λ (ls : List PeerLease). Contains ls y.0) (found_is c.self.view_is) (one-among t.leases c.in-Some.number y.0 y.1);
      dead = y.2;
      none = tt;
    })
