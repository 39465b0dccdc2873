use Rattle.ordered_index.specs.Orders.{port_at}
use Rattle.ordered_index.proofs.PortLemmas.{same_place}
use Rattle.ordered_index.proofs.port_slots.is_same.Goals as goal

pub returns : goal.returns
returns c =
    same_place c.place_at.result c.place_at-2.result (port_at c.args.first.0 c.args.first.1) (port_at c.args.second.0 c.args.second.1)
    c.place_at.ensures.within c.place_at-2.ensures.within c.place_at.ensures.port c.place_at-2.ensures.port
