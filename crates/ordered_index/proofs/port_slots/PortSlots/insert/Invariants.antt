use Rattle.ordered_index.specs.Orders.{port_at}
use Rattle.ordered_index.specs.PortSlots.{with_port}
use Rattle.ordered_index.proofs.port_slots.PortSlots.insert.Given as goal

abbrev pub ghosts-note_as : goal.ghosts-note_as
ghosts-note_as a = record { items = with_port (port_at a.port.0 a.port.1) a.number a.map.now }
