use Rattle.std.proofs.Common.{ℕ, IsSome, refl, subst, sym}
use Rattle.std.specs.Ordering.{nat_cmp}
use Rattle.std.specs.BTreeMap.{get}
use Rattle.ordered_index.specs.MapSteps.{HasEntry}
use Rattle.ordered_index.specs.Orders.{port_at, port_cmp}
use Rattle.ordered_index.specs.Steps.{Replaces}
use Rattle.ordered_index.specs.declared.numbered.Numbered.{Numbered}
use Rattle.ordered_index.proofs.owned.Owned.replace.Goals as goal

pub shift-requires : goal.shift-requires
shift-requires g c =
    subst (λ (v : Numbered g.row.L.Denot g.row.K.Denot (ℕ × ℕ)). HasEntry port_cmp v.ports (port_at c.args.from.0 c.args.from.1) c.args.number) (sym c.self.view_is) c.requires.port

pub overwrite-requires : goal.overwrite-requires
overwrite-requires g c =
    subst (λ (v : Numbered g.row.L.Denot g.row.K.Denot (ℕ × ℕ)). IsSome (get nat_cmp v.leases c.args.number)) (sym c.self.view_is) c.requires.there

pub returns : goal.returns
returns g c =
    let new : Numbered g.row.L.Denot g.row.K.Denot (ℕ × ℕ) = record { next = c.self.inside.next; leases = c.overwrite.new.self; keys = c.self.inside.keys; ports = c.shift.new.self } in
    subst (λ (v : Numbered g.row.L.Denot g.row.K.Denot (ℕ × ℕ)). Replaces port_cmp v new c.args.number c.args.lease (port_at c.args.from.0 c.args.from.1) (port_at c.args.to.0 c.args.to.1)) c.self.view_is
    (record { next = refl; leases = c.overwrite.ensures; keys = refl; ports = c.shift.ensures })
