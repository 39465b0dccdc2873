use Rattle.std.proofs.Common.{subst}
use Rattle.turn_lock.specs.Passes.{IsPlaced}
use Rattle.turn_lock.proofs.Marked.{placed_shown}
use Rattle.turn_lock.proofs.Numbers.{few_places}
use Rattle.turn_lock.proofs.turn.Pass.places_stand_once.Goals as goal

pub returns-clause-once : goal.returns-clause-once
returns-clause-once g c = subst IsPlaced c.self.view_is (placed_shown c.self.inside.seat.table_id c.self.inside.seat.me.0 c.self.invariant.placed)

pub returns-clause-few : goal.returns-clause-few
returns-clause-few g c = few_places c.args.self.now (subst IsPlaced c.self.view_is (placed_shown c.self.inside.seat.table_id c.self.inside.seat.me.0 c.self.invariant.placed))
