use Rattle.ordered_index.specs.Orders.{port_at}
use Rattle.ordered_index.specs.PortSlots.{without_port}
use Rattle.ordered_index.proofs.port_slots.PortSlots.remove.Given as goal

abbrev pub ghosts-forget_as : goal.ghosts-forget_as
ghosts-forget_as a = record { items = without_port (port_at a.port.0 a.port.1) a.map.now }
