use Rattle.std.proofs.Common.{ℕ, List, refl, subst, sym}
use Rattle.std.specs.Map.{remove_entry}
use Rattle.std.specs.BTreeMap.{BTreeMap, is_at}
use Rattle.ordered_index.specs.MapSteps.{Removes}
use Rattle.ordered_index.specs.Orders.{port_at, port_cmp}
use Rattle.ordered_index.specs.PortSlots.{ArePortSlots, map_of, noted}
use Rattle.ordered_index.proofs.PortLemmas.{went, went_slots}
use Rattle.ordered_index.proofs.port_slots.PortSlots.remove.Goals as goal

pub invariant_of-self : goal.invariant_of-self
invariant_of-self c =
    let p = c.self.inside in
    let port = port_at c.args.port.0 c.args.port.1 in
    let map2 = map_of (remove_entry (is_at (port_cmp port)) (noted p.map).entries) in
    subst (λ (m : List (BTreeMap (ℕ × ℕ) ℕ)). ArePortSlots p.slots.items c.set.new.self (noted m)) (sym c.forget_as.ensures)
    (went_slots p.slots.items p.marks (noted p.map) c.self.invariant c.place_at.result c.place_at.ensures.within port c.place_at.ensures.port
    c.set.new.self c.set.ensures map2 refl)

pub returns : goal.returns
returns c =
    let p = c.self.inside in
    let port = port_at c.args.port.0 c.args.port.1 in
    let map2 = map_of (remove_entry (is_at (port_cmp port)) (noted p.map).entries) in
    subst (λ (m : BTreeMap (ℕ × ℕ) ℕ). Removes port_cmp m (noted c.forget_as.new.map) port) c.self.view_is
    (subst (λ (m : List (BTreeMap (ℕ × ℕ) ℕ)). Removes port_cmp (noted p.map) (noted m) port) (sym c.forget_as.ensures)
    (went p.slots.items p.marks (noted p.map) c.self.invariant c.place_at.result c.place_at.ensures.within port c.place_at.ensures.port
    c.set.new.self c.set.ensures map2 refl))
