use Rattle.std.proofs.Common.{◌≡◌, ◌∙◌, ap, sym, subst, Bool, false, List, [], ◌∷◌}
use Rattle.std.specs.Prelude.{◌↔◌, find, is_some, IsTrue, IfOk}
use Rattle.pcp_base.specs.declared.leases.PeerLease.{PeerLease}
use Rattle.pcp_base.specs.declared.leases.Owner.{Owner}
use Rattle.pcp_base.specs.Tables.{Table, live, is_peer_of}
use Rattle.pcp_base.specs.Owners.{peer_owner}
use Rattle.pcp_base.specs.States.{State}
use Rattle.pcp_base.specs.Fits.{RestForNoOther}
use Rattle.plain_replay.proofs.NewLeases.{decided_where_none}
use Rattle.plain_replay.proofs.replay.PlainReplay.is_rested_peer.Goals as goal

pub returns : goal.returns
returns c =
    let test : PeerLease → Bool = is_peer_of c.args.lease.now.endpoint c.args.lease.now.remote c.args.lease.now.remote_port in
    let held : List PeerLease = (live c.args.self.now.table c.args.m).peers in
    let new : is_some (find test held) ≡ false =
    sym (c.holds_peer.ensures ∙ ap (λ xs. is_some (find test xs)) (c.peers.ensures
    ∙ ap (λ (t : Table). t.peers) (c.in_ok-live.ensures ∙ ap (λ (s : State). live s.table c.args.m) c.self.view_is))) ∙ c.if-holds_peer.false in
    decided_where_none (find test held) (RestForNoOther c.args.self.now c.args.m (peer_owner c.args.lease.now ∷ [])) c.are_free.result new
    (subst (λ (o : Owner). IfOk c.are_free.result (λ b. IsTrue b ↔ RestForNoOther c.args.self.now c.args.m (o ∷ []))) c.owner_of_peer.ensures c.are_free.ensures)
