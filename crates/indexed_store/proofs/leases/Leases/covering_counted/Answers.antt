use Rattle.std.proofs.Common.{nat_lt, sym, ap, ◌∙◌}
use Rattle.pcp_base.specs.Tables.{Table, covers}
use Rattle.mapping_table.specs.MapLists.{map_covering}
use Rattle.indexed_store.proofs.Uniques.{none-within, one-within, gone-within, one-covers}
use Rattle.indexed_store.proofs.Views.{found_is}
use Rattle.indexed_store.proofs.leases.Leases.covering_counted.Goals as goal

pub returns-in_default-clause-lease : goal.returns-in_default-clause-lease
returns-in_default-clause-lease g c =
    let found = c.in_default.ensures.lease ∙ ap (λ (t : Table). map_covering c.args.endpoint.now t.maps) (found_is c.self.view_is) in
    sym (none-within (λ l. covers l c.args.endpoint.now) (λ l. nat_lt c.args.m l.expiry) c.args.self.now.found.maps (sym found))

pub returns-then-is_live-clause-lease : goal.returns-then-is_live-clause-lease
returns-then-is_live-clause-lease g c =
    let found = c.in-Some.ensures.lease ∙ ap (λ (t : Table). map_covering c.args.endpoint.now t.maps) (found_is c.self.view_is) in
    sym (one-within (λ l. covers l c.args.endpoint.now) (λ l. nat_lt c.args.m l.expiry) c.args.self.now.found.maps c.in-Some.lease (sym found) (sym c.is_live.ensures ∙ c.if-is_live.true))

pub returns-else-is_live-clause-lease : goal.returns-else-is_live-clause-lease
returns-else-is_live-clause-lease g c =
    let found = c.in-Some.ensures.lease ∙ ap (λ (t : Table). map_covering c.args.endpoint.now t.maps) (found_is c.self.view_is) in
    sym (gone-within (λ l. covers l c.args.endpoint.now) (λ l. nat_lt c.args.m l.expiry) c.args.self.now.found.maps c.in-Some.lease
    (one-covers c.args.self.now.found c.args.endpoint.now c.requires) (sym found) (sym c.is_live.ensures ∙ c.if-is_live.false))
