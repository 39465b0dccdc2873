use Rattle.std.proofs.Common.{sym, ap, ◌∙◌}
use Rattle.std.specs.BTreeMap.{get}
use Rattle.ordered_index.specs.Orders.{port_at, port_cmp}
use Rattle.ordered_index.proofs.Keeping.{port-found, no-port-found}
use Rattle.cascade_ties.specs.Kept.{tie_keying}
use Rattle.cascade_ties.specs.Ties.{Ties, has_local, tie_at}
use Rattle.cascade_ties.proofs.TieKeeping.{tie_laws, tells_local}
use Rattle.cascade_ties.proofs.table.TieTable.at_local.Goals as goal

pub returns-in_default : goal.returns-in_default
returns-in_default c =
    no-port-found tie_keying tie_laws c.self.inside.kept c.self.invariant.0.ties.kept (has_local c.args.protocol c.args.port) (port_at c.args.protocol c.args.port) (tells_local c.args.protocol c.args.port)
    (ap (get port_cmp c.self.inside.kept.ports) (sym c.port_at.ensures) ∙ sym (c.in_default.ensures ∙ c.get.ensures.value))
    ∙ ap (λ (v : Ties). tie_at c.args.protocol c.args.port v.each) c.self.view_is

pub returns : goal.returns
returns c =
    c.get-2.ensures.value
    ∙ port-found tie_keying tie_laws c.self.inside.kept c.self.invariant.0.ties.kept (has_local c.args.protocol c.args.port) (port_at c.args.protocol c.args.port) c.in-Some.number (tells_local c.args.protocol c.args.port)
    (ap (get port_cmp c.self.inside.kept.ports) (sym c.port_at.ensures) ∙ sym (c.in-Some.ensures ∙ c.get.ensures.value))
    ∙ ap (λ (v : Ties). tie_at c.args.protocol c.args.port v.each) c.self.view_is
