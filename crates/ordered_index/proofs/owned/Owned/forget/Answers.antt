use Rattle.std.proofs.Common.{ℕ, refl, subst}
use Rattle.ordered_index.specs.Orders.{port_at, port_cmp}
use Rattle.ordered_index.specs.Steps.{Forgets}
use Rattle.ordered_index.specs.declared.numbered.Numbered.{Numbered}
use Rattle.ordered_index.proofs.owned.Owned.forget.Goals as goal

pub returns : goal.returns
returns g c =
    let new : Numbered g.row.L.Denot g.row.K.Denot (ℕ × ℕ) = record { next = c.self.inside.next; leases = c.remove.new.self; keys = c.remove_from.new.map; ports = c.remove-2.new.self } in
    subst (λ (v : Numbered g.row.L.Denot g.row.K.Denot (ℕ × ℕ)). Forgets g.K.Ord.cmp port_cmp v new c.args.number c.args.key (port_at c.args.port.0 c.args.port.1)) c.self.view_is
    (record { next = refl; leases = c.remove.ensures.removed; keys = c.remove_from.ensures.removed; ports = c.remove-2.ensures })
