use Rattle.std.proofs.Common.{◌++◌, ◌∷◌, [], ◌<◌, nat_lt, length, subst, sym, arith}
use Rattle.pcp_base.specs.declared.leases.PeerLease.{PeerLease}
use Rattle.pcp_base.specs.Tables.{Table, IsPeerLease}
use Rattle.pcp_base.proofs.Members.{IsIn-from_Contains, All-IsIn}
use Rattle.indexed_store.specs.Runs.{IsOwnerRun, peer_run}
use Rattle.indexed_store.specs.Tabled.{AreTabled}
use Rattle.indexed_store.proofs.ChangeLemmas.{peer_gone_tabled, seen_without_peer, without_peer}
use Rattle.indexed_store.proofs.LeavingLemmas.{all_live, leaving_same, pushed, leave_peer, fewer_peers}
use Rattle.indexed_store.proofs.Views.{found_is}
use Rattle.indexed_store.proofs.leases.Leases.drop_peer.Goals as goal

pub returns-in_default-clause-all : goal.returns-in_default-clause-all
returns-in_default-clause-all g c = λ _.
    all_live (λ (l : PeerLease). nat_lt c.args.m l.expiry) c.args.self.now.found.peers
    c.in_default.ensures.none

pub run_of_peer-requires : goal.run_of_peer-requires
run_of_peer-requires g c =
    let ls = c.args.self.now.found.peers in
    let is = All-IsIn IsPeerLease ls c.in-Some.lease c.requires.peers.leases
    (IsIn-from_Contains ls c.in-Some.lease c.in-Some.ensures.among) in
    let some = is.external in omega (arith, some)

pub returns-clause-leaving : goal.returns-clause-leaving
returns-clause-leaving g c = λ start h.
    let m = c.args.m in let t = c.args.self.now.found in let l = c.in-Some.lease in
    let left = c.args.left.now.items in
    let gone = seen_without_peer l.endpoint l.remote l.remote_port t _ _ (found_is c.self.view_is) c.remove.ensures.removed.removed in
    let more = pushed left _ c.run_of_peer.result (peer_run l) c.in_ok-push.ensures.items
    c.run_of_peer.ensures.value in
    let formed = subst IsOwnerRun c.run_of_peer.ensures.value c.run_of_peer.ensures.formed in
    leaving_same m start (without_peer l.endpoint l.remote l.remote_port t) _ (left ++ peer_run l ∷ []) _ gone more
    (leave_peer m t c.requires l c.in-Some.ensures.among c.in-Some.ensures.dead start left formed h)

pub returns-clause-sound : goal.returns-clause-sound
returns-clause-sound g c =
    let t = c.args.self.now.found in let l = c.in-Some.lease in
    let gone = seen_without_peer l.endpoint l.remote l.remote_port t _ _ (found_is c.self.view_is) c.remove.ensures.removed.removed in
    subst AreTabled (sym gone) (peer_gone_tabled c.args.m l.endpoint l.remote l.remote_port t c.requires c.fewer_peers_are_sound.ensures)

pub returns-clause-fewer : goal.returns-clause-fewer
returns-clause-fewer g c = λ _.
    let m = c.args.m in let t = c.args.self.now.found in let l = c.in-Some.lease in
    let gone = seen_without_peer l.endpoint l.remote l.remote_port t _ _ (found_is c.self.view_is) c.remove.ensures.removed.removed in
    subst (λ (x : Table). length x.peers < length t.peers) (sym gone)
    (fewer_peers m t c.requires l c.in-Some.ensures.among c.in-Some.ensures.dead)
