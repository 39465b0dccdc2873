use Rattle.std.proofs.Common.{sym, ◌∙◌}
use Rattle.ordered_index.specs.Orders.{port_at}
use Rattle.ordered_index.proofs.PortLemmas.{stays_there, moves_there}
use Rattle.ordered_index.proofs.port_slots.PortSlots.shift.Goals as goal

pub returns-then-is_same : goal.returns-then-is_same
returns-then-is_same c =
    stays_there c.args.self.now (port_at c.args.from.0 c.args.from.1) (port_at c.args.to.0 c.args.to.1) c.args.number c.requires (sym c.is_same.ensures ∙ c.if-is_same.true)

pub returns : goal.returns
returns c =
    moves_there c.args.self.now (port_at c.args.from.0 c.args.from.1) (port_at c.args.to.0 c.args.to.1) c.args.number
    c.insert.new.self c.remove.new.self c.insert.ensures c.remove.ensures (sym c.is_same.ensures ∙ c.if-is_same.false)
