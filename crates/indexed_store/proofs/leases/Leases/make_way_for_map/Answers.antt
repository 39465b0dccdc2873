use Rattle.std.proofs.Common.{◌≡◌, List, Contains, find, is_some, nat_lt, true, IfSome, sym, ap, ◌∙◌, subst}
use Rattle.pcp_base.specs.declared.leases.Endpoint.{Endpoint}
use Rattle.pcp_base.specs.declared.leases.PeerLease.{PeerLease}
use Rattle.pcp_base.specs.declared.records.Change.TheVariants.{Map}
use Rattle.pcp_base.specs.Apply.{table_changed}
use Rattle.pcp_base.specs.Sound.{Sound}
use Rattle.pcp_base.specs.Tables.{Table, is_map_of}
use Rattle.indexed_store.proofs.WayLemmas.{map-some, map-way}
use Rattle.indexed_store.proofs.leases.Leases.make_way_for_map.Goals as goal

pub make_room_unless-requires-clause-some : goal.make_room_unless-requires-clause-some
make_room_unless-requires-clause-some g c =
    let m = c.args.m in let l = c.args.lease.now in let t = c.keeps_map-there.new.self.found in
    let after = subst (λ (u : Table). Sound (table_changed (Map l) u)) (sym (c.keeps_map-there.ensures.live ∙ c.drop_overlapped_maps.ensures.live)) c.requires.after in
    map-some m l t c.keeps_map-there.result after (c.keeps_map-there.ensures.there ∙ ap (λ (e : Endpoint). is_some (find (is_map_of e) t.maps)) c.first_endpoint.ensures)

pub returns-clause-way : goal.returns-clause-way
returns-clause-way g c =
    let m = c.args.m in let l = c.args.lease.now in
    let s = c.drop_overlapped_maps.new.self.found in let t = c.keeps_map-there.new.self.found in let u = c.make_room_unless.new.self.found in
    let own = subst (λ (e : Endpoint). IfSome (find (is_map_of e) t.maps) (λ x. nat_lt m x.expiry ≡ true)) c.first_endpoint.ensures c.keeps_map-there.ensures.own in
    let there = c.keeps_map-there.ensures.there ∙ ap (λ (e : Endpoint). is_some (find (is_map_of e) t.maps)) c.first_endpoint.ensures in
    map-way m l s t u c.keeps_map-there.result c.drop_overlapped_maps.ensures.apart c.keeps_map-there.ensures.tabled c.keeps_map-there.ensures.maps_from own there
    c.make_room_unless.ensures.tabled c.make_room_unless.ensures.maps_from c.make_room_unless.ensures.room c.make_room_unless.ensures.same

pub returns-clause-peers_from : goal.returns-clause-peers_from
returns-clause-peers_from g c = λ l i.
    subst (λ (ps : List PeerLease). Contains ps l) (c.keeps_map-there.ensures.peers ∙ c.drop_overlapped_maps.ensures.peers) (c.make_room_unless.ensures.peers_from l i)
