use Rattle.ordered_index.proofs.PortLemmas.{blank_ports, blank_noted}
use Rattle.ordered_index.proofs.port_slots.PortSlots.clear.Goals as goal

pub invariant_of-self : goal.invariant_of-self
invariant_of-self c =
    blank_ports c.self.inside.slots.items c.clear.new.self c.clear-2.new.self c.self.invariant.all c.clear.ensures c.clear-2.ensures

pub returns : goal.returns
returns c = blank_noted c.clear-2.new.self c.clear-2.ensures
