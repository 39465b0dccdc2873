use Rattle.std.proofs.Common.{ap, ◌∙◌, sym, subst}
use Rattle.pcp_base.specs.declared.records.Change.TheVariants.{Peer}
use Rattle.pcp_base.specs.Tables.{Table, live}
use Rattle.pcp_base.specs.Apply.{table_changed}
use Rattle.peer_table.specs.PeerLists.{AreSoundPeers, with_peer}
use Rattle.indexed_store.specs.Tabled.{AreTabled}
use Rattle.indexed_store.proofs.ChangeLemmas.{peers_with_one, peer_tabled, peer_live, seen_with_peer}
use Rattle.indexed_store.proofs.Views.{found_is}
use Rattle.indexed_store.proofs.leases.Leases.put_peer.Goals as goal

pub put-requires : goal.put-requires
put-requires g c =
    let l = c.args.lease.now in let t = c.make_way_for_peer.new.self.found in
    subst (λ (x : Table). AreSoundPeers (with_peer l x.peers)) (sym (found_is c.self.view_is))
    (peers_with_one c.args.m l t c.make_way_for_peer.ensures.way c.peers_are_sound_with_one_more.ensures c.requires.lease)

pub returns-clause-tabled : goal.returns-clause-tabled
returns-clause-tabled g c =
    let l = c.args.lease.now in let t = c.make_way_for_peer.new.self.found in
    subst AreTabled (sym (seen_with_peer l t _ _ (found_is c.self.view_is) c.in_ok-put.ensures.put.ok))
    (peer_tabled c.args.m l t c.make_way_for_peer.ensures.way c.peers_are_sound_with_one_more.ensures c.requires.lease)

pub returns-clause-table : goal.returns-clause-table
returns-clause-table g c =
    let m = c.args.m in let l = c.args.lease.now in let t = c.make_way_for_peer.new.self.found in
    ap (λ (x : Table). live x m) (seen_with_peer l t _ _ (found_is c.self.view_is) c.in_ok-put.ensures.put.ok)
    ∙ peer_live m l t c.make_way_for_peer.ensures.way c.requires.later
    ∙ ap (table_changed (Peer l)) c.make_way_for_peer.ensures.live
