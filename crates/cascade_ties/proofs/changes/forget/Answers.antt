use Rattle.std.proofs.Common.{ℕ, subst}
use Rattle.ordered_index.specs.Orders.{Place, place_cmp, place_of, port_cmp}
use Rattle.ordered_index.specs.Steps.{Forgets}
use Rattle.cascade_ties.proofs.changes.forget.Goals as goal

pub returns : goal.returns
returns c =
    subst (λ (p : ℕ × ℕ). Forgets place_cmp port_cmp c.args.kept.now c.forget.new.self c.args.number (place_of c.args.client.now) p) c.port_at-local.ensures
    (subst (λ (k : Place). Forgets place_cmp port_cmp c.args.kept.now c.forget.new.self c.args.number k c.port_at-local.result) c.place_of.ensures c.forget.ensures)
