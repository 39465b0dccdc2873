use Rattle.std.proofs.Common.{◌≡◌, nat_lt, ◌&&◌, Bool, false, find, filter, sym, ap, ◌∙◌}
use Rattle.pcp_base.specs.declared.leases.PeerLease.{PeerLease}
use Rattle.pcp_base.specs.Tables.{live}
use Rattle.pcp_base.proofs.Members.{All-IsIn, find-none, find-some}
use Rattle.peer_table.specs.PeerLists.{opens}
use Rattle.indexed_store.specs.Tabled.{Tables}
use Rattle.indexed_store.proofs.Uniques.{one-opens}
use Rattle.indexed_store.proofs.WholeLemmas.{found-whole, past-whole}
use Rattle.indexed_store.proofs.leases.Leases.live_opening.Goals as goal

pub returns-in_default : goal.returns-in_default
returns-in_default c =
    let own = opens c.args.protocol c.args.port c.args.remote.now c.args.remote_port in let t = c.args.self.now in
    let alive : PeerLease → Bool = λ l. nat_lt c.args.m l.expiry in
    c.past_opening.ensures ∙ ap (λ (v : Tables). find (λ l. alive l && own l) v.past.peers) c.self.view_is
    ∙ past-whole _ c.tell_all.ensures.peers alive own (one-opens c.args.protocol c.args.port c.args.remote.now c.args.remote_port (live t.all c.args.m) c.requires.sound)
    (λ x i lives opening. let no = All-IsIn (λ l. own l ≡ false) t.found.peers x (find-none own t.found.peers (sym c.in_default.ensures)) i in cc)

pub returns-then-is_live : goal.returns-then-is_live
returns-then-is_live c =
    let own = opens c.args.protocol c.args.port c.args.remote.now c.args.remote_port in let t = c.args.self.now in
    let alive : PeerLease → Bool = λ l. nat_lt c.args.m l.expiry in
    let f = find-some own t.found.peers c.in-Some.lease (sym c.in-Some.ensures) in
    found-whole _ c.tell_all.ensures.peers alive own (one-opens c.args.protocol c.args.port c.args.remote.now c.args.remote_port (live t.all c.args.m) c.requires.sound) c.in-Some.lease f.0
    (sym c.is_live.ensures ∙ c.if-is_live.true) f.1

pub returns-else-is_live : goal.returns-else-is_live
returns-else-is_live c =
    let own = opens c.args.protocol c.args.port c.args.remote.now c.args.remote_port in let t = c.args.self.now in
    let alive : PeerLease → Bool = λ l. nat_lt c.args.m l.expiry in
    let one = one-opens c.args.protocol c.args.port c.args.remote.now c.args.remote_port in
    let f = find-some own t.found.peers c.in-Some.lease (sym c.in-Some.ensures) in
    let dead = sym c.is_live.ensures ∙ c.if-is_live.false in
    c.past_opening-else-is_live.ensures ∙ ap (λ (v : Tables). find (λ l. alive l && own l) v.past.peers) c.self.view_is
    ∙ past-whole _ c.tell_all.ensures.peers alive own (one (live t.all c.args.m) c.requires.sound)
    (λ x i lives opening.
    let same = one t.found c.requires.found x c.in-Some.lease i f.0 opening f.1 in
    let no = ap alive same ∙ dead in cc)
