use Rattle.ordered_index.proofs.PortLemmas.{blank_ports, blank_noted}
use Rattle.ordered_index.proofs.port_slots.PortSlots.new.Goals as goal

pub invariant_of-result : goal.invariant_of-result
invariant_of-result c =
    blank_ports c.in_ok-slots.slots.items c.in_ok-marks.marks c.in_ok-map.map c.in_ok-slots.ensures c.in_ok-marks.ensures c.in_ok-map.ensures

pub returns : goal.returns
returns c = blank_noted c.in_ok-map.map c.in_ok-map.ensures
