use Rattle.std.proofs.Common.{nat_lt, ◌&&◌, ◌||◌, Bool, sym, ap, ◌∙◌}
use Rattle.std.specs.List.{list_any}
use Rattle.std.proofs.lemmas.Bool.{or_left}
use Rattle.pcp_base.specs.declared.leases.MapLease.{MapLease}
use Rattle.pcp_base.specs.Tables.{covers}
use Rattle.indexed_store.specs.Tabled.{Tables}
use Rattle.indexed_store.proofs.WholeLemmas.{some-whole}
use Rattle.indexed_store.proofs.leases.Leases.covered.Goals as goal

pub returns-then-is_covered : goal.returns-then-is_covered
returns-then-is_covered c =
    let alive : MapLease → Bool = λ l. nat_lt c.args.m l.expiry in
    c.if-is_covered.true ∙ sym (or_left _ _ (sym c.is_covered.ensures ∙ c.if-is_covered.true)) ∙ some-whole _ c.tell_all.ensures.maps alive (λ l. covers l c.args.endpoint.now)

pub returns-else-is_covered : goal.returns-else-is_covered
returns-else-is_covered c =
    let alive : MapLease → Bool = λ l. nat_lt c.args.m l.expiry in let e = c.args.endpoint.now in
    c.past_covers.ensures ∙ ap (λ (v : Tables). list_any (λ l. alive l && covers l e) v.past.maps) c.self.view_is
    ∙ sym (ap (λ b. b || list_any (λ l. alive l && covers l e) c.args.self.now.past.maps) (sym c.is_covered.ensures ∙ c.if-is_covered.false))
    ∙ some-whole _ c.tell_all.ensures.maps alive (λ l. covers l e)
