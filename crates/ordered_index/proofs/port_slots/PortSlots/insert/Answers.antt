use Rattle.std.proofs.Common.{ℕ, List, ap, subst, arith}
use Rattle.std.specs.BTreeMap.{BTreeMap}
use Rattle.ordered_index.specs.MapSteps.{Inserts}
use Rattle.ordered_index.specs.Orders.{port_at, port_cmp}
use Rattle.ordered_index.specs.PortSlots.{noted}
use Rattle.ordered_index.proofs.PortLemmas.{came, came_slots}
use Rattle.ordered_index.proofs.port_slots.PortSlots.insert.Goals as goal

pub write_slot-requires : goal.write_slot-requires
write_slot-requires c =
    let all = c.self.invariant.all in
    let within = c.place_at-place.ensures.within in omega (arith, all, within)

pub invariant_of-self : goal.invariant_of-self
invariant_of-self c =
    let p = c.self.inside in
    came_slots p.slots.items p.marks (noted p.map) c.self.invariant c.place_at-place.result c.place_at-place.ensures.within (port_at c.args.port.0 c.args.port.1) c.place_at-place.ensures.port
    c.set.new.self c.args.number c.write_slot.new.slots.items c.write_slot.ensures c.set.ensures (noted c.note_as.new.map)
    (ap (λ (m : List (BTreeMap (ℕ × ℕ) ℕ)). (noted m).entries) c.note_as.ensures)

pub returns : goal.returns
returns c =
    let p = c.self.inside in
    let port = port_at c.args.port.0 c.args.port.1 in
    subst (λ (m : BTreeMap (ℕ × ℕ) ℕ). Inserts port_cmp m (noted c.note_as.new.map) port c.args.number) c.self.view_is
    (came p.slots.items p.marks (noted p.map) c.self.invariant c.place_at-place.result c.place_at-place.ensures.within port c.place_at-place.ensures.port
    c.set.new.self c.args.number c.write_slot.new.slots.items c.write_slot.ensures c.set.ensures (noted c.note_as.new.map)
    (ap (λ (m : List (BTreeMap (ℕ × ℕ) ℕ)). (noted m).entries) c.note_as.ensures))
