use Rattle.std.proofs.Common.{sym, ◌∙◌, subst}
use Rattle.pcp_base.specs.declared.records.Change.TheVariants.{Peer}
use Rattle.pcp_base.specs.Apply.{table_changed}
use Rattle.pcp_base.specs.Sound.{Sound}
use Rattle.pcp_base.specs.Tables.{Table}
use Rattle.indexed_store.proofs.WayLemmas.{peer-some, peer-way}
use Rattle.indexed_store.proofs.leases.Leases.make_way_for_peer.Goals as goal

pub make_room_unless-requires-clause-some : goal.make_room_unless-requires-clause-some
make_room_unless-requires-clause-some g c =
    let m = c.args.m in let l = c.args.lease.now in let t = c.drop_peers_in_way.new.self.found in
    let after = subst (λ (u : Table). Sound (table_changed (Peer l) u)) (sym c.drop_peers_in_way.ensures.live) c.requires.after in
    peer-some m l t c.keeps_peer-there.result after c.keeps_peer-there.ensures.there

pub returns-clause-way : goal.returns-clause-way
returns-clause-way g c =
    let m = c.args.m in let l = c.args.lease.now in
    let t = c.drop_peers_in_way.new.self.found in let u = c.make_room_unless.new.self.found in
    let after = subst (λ (v : Table). Sound (table_changed (Peer l) v)) (sym (c.make_room_unless.ensures.live ∙ c.drop_peers_in_way.ensures.live)) c.requires.after in
    peer-way m l t u c.keeps_peer-there.result after c.drop_peers_in_way.ensures.apart c.drop_peers_in_way.ensures.of_endpoint c.keeps_peer-there.ensures.there
    c.make_room_unless.ensures.tabled c.make_room_unless.ensures.peers_from c.make_room_unless.ensures.room c.make_room_unless.ensures.same
