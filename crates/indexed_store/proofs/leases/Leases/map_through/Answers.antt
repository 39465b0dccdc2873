use Rattle.std.proofs.Common.{nat_lt, filter, Bool, sym, ap, ◌∙◌}
use Rattle.pcp_base.specs.declared.leases.MapLease.{MapLease}
use Rattle.pcp_base.specs.Tables.{Table, live}
use Rattle.filter_rules.specs.Filters.{allows}
use Rattle.pcp_base.specs.Owners.{owns}
use Rattle.indexed_store.proofs.Uniques.{none-within, one-within, gone-within, one-owns}
use Rattle.indexed_store.proofs.leases.Leases.map_through.Goals as goal

pub returns-in_default : goal.returns-in_default
returns-in_default c =
    let lets : MapLease → Bool = λ l. allows l.filters c.args.remote.now c.args.remote_port in
    sym (none-within (owns c.args.protocol c.args.port) lets (live c.args.self.now.all c.args.m).maps (sym c.in_default.ensures))

pub returns-then-allows : goal.returns-then-allows
returns-then-allows c =
    let lets : MapLease → Bool = λ l. allows l.filters c.args.remote.now c.args.remote_port in
    sym (one-within (owns c.args.protocol c.args.port) lets (live c.args.self.now.all c.args.m).maps c.in-Some.lease (sym c.in-Some.ensures) (sym c.allows.ensures ∙ c.if-allows.true))

pub returns-else-allows : goal.returns-else-allows
returns-else-allows c =
    let lets : MapLease → Bool = λ l. allows l.filters c.args.remote.now c.args.remote_port in
    let t = live c.args.self.now.all c.args.m in
    sym (gone-within (owns c.args.protocol c.args.port) lets t.maps c.in-Some.lease (one-owns t c.args.protocol c.args.port c.requires.sound) (sym c.in-Some.ensures)
    (sym c.allows.ensures ∙ c.if-allows.false))
