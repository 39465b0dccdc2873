use Rattle.indexed_store.proofs.LeavingLemmas.{begins, left_over}
use Rattle.indexed_store.proofs.leases.Leases.drop_dead.Goals as goal

pub returns-clause-table : goal.returns-clause-table
returns-clause-table g c =
    let t = c.args.self.now.found in let m = c.args.m in
    let first = begins m t c.new-left.result.items c.new-left.ensures.items in
    let last = c.in_ok-drop_peers.ensures.leaving t (c.in_ok-drop_maps.ensures.leaving t first) in
    (left_over m t c.drop_maps.new.self.found c.drop_peers.new.self.found c.drop_peers.new.left.items last
    c.in_ok-drop_maps.ensures.all c.drop_peers.ensures.maps c.in_ok-drop_peers.ensures.all).0

pub returns-clause-left : goal.returns-clause-left
returns-clause-left g c =
    let t = c.args.self.now.found in let m = c.args.m in
    let first = begins m t c.new-left.result.items c.new-left.ensures.items in
    let last = c.in_ok-drop_peers.ensures.leaving t (c.in_ok-drop_maps.ensures.leaving t first) in
    (left_over m t c.drop_maps.new.self.found c.drop_peers.new.self.found c.drop_peers.new.left.items last
    c.in_ok-drop_maps.ensures.all c.drop_peers.ensures.maps c.in_ok-drop_peers.ensures.all).1
