use Rattle.std.proofs.Common.{◌≡◌, nat_lt, ◌&&◌, Bool, false, find, filter, sym, ap, ◌∙◌}
use Rattle.pcp_base.specs.declared.leases.MapLease.{MapLease}
use Rattle.pcp_base.specs.Tables.{live}
use Rattle.pcp_base.specs.Owners.{owns}
use Rattle.pcp_base.proofs.Members.{All-IsIn, find-none, find-some}
use Rattle.indexed_store.specs.Tabled.{Tables}
use Rattle.indexed_store.proofs.Uniques.{one-owns}
use Rattle.indexed_store.proofs.WholeLemmas.{found-whole, past-whole}
use Rattle.indexed_store.proofs.leases.Leases.live_owner.Goals as goal

pub returns-in_default : goal.returns-in_default
returns-in_default c =
    let own = owns c.args.protocol c.args.port in let t = c.args.self.now in
    let alive : MapLease → Bool = λ l. nat_lt c.args.m l.expiry in
    c.past_owner.ensures ∙ ap (λ (v : Tables). find (λ l. alive l && own l) v.past.maps) c.self.view_is
    ∙ past-whole _ c.tell_all.ensures.maps alive own (one-owns (live t.all c.args.m) c.args.protocol c.args.port c.requires.sound)
    (λ x i lives owning. let no = All-IsIn (λ l. own l ≡ false) t.found.maps x (find-none own t.found.maps (sym c.in_default.ensures)) i in cc)

pub returns-then-is_live : goal.returns-then-is_live
returns-then-is_live c =
    let own = owns c.args.protocol c.args.port in let t = c.args.self.now in
    let alive : MapLease → Bool = λ l. nat_lt c.args.m l.expiry in
    let f = find-some own t.found.maps c.in-Some.lease (sym c.in-Some.ensures) in
    found-whole _ c.tell_all.ensures.maps alive own (one-owns (live t.all c.args.m) c.args.protocol c.args.port c.requires.sound) c.in-Some.lease f.0
    (sym c.is_live.ensures ∙ c.if-is_live.true) f.1

pub returns-else-is_live : goal.returns-else-is_live
returns-else-is_live c =
    let own = owns c.args.protocol c.args.port in let t = c.args.self.now in
    let alive : MapLease → Bool = λ l. nat_lt c.args.m l.expiry in
    let f = find-some own t.found.maps c.in-Some.lease (sym c.in-Some.ensures) in
    let dead = sym c.is_live.ensures ∙ c.if-is_live.false in
    c.past_owner-else-is_live.ensures ∙ ap (λ (v : Tables). find (λ l. alive l && own l) v.past.maps) c.self.view_is
    ∙ past-whole _ c.tell_all.ensures.maps alive own (one-owns (live t.all c.args.m) c.args.protocol c.args.port c.requires.sound)
    (λ x i lives owning.
    let same = one-owns t.found c.args.protocol c.args.port c.requires.found x c.in-Some.lease i f.0 owning f.1 in
    let no = ap alive same ∙ dead in cc)
