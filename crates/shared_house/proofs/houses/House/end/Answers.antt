use Rattle.std.proofs.Common.{List, ap, subst}
use Rattle.turn_lock.specs.Passes.{TurnName}
use Rattle.turned_shards.specs.declared.openings.Opening.{Opening}
use Rattle.shared_house.specs.Endings.{AllKnowFirst}
use Rattle.shared_house.proofs.houses.House.end.Goals as goal

pub returns-clause-lanes : goal.returns-clause-lanes
returns-clause-lanes g c =
    subst (λ (turns : List (TurnName (Opening g.row.D.Denot))). AllKnowFirst turns
    c.end_all.new.passes.items c.args.lanes.now) (ap (λ h. h.turns) c.self.view_is)
    c.end_all.ensures.lanes
