use Rattle.std.proofs.Common.{sym, ap, ◌∙◌}
use Rattle.cascade_ties.proofs.PickLemmas.{pick_is, port_given}
use Rattle.cascade_ties.proofs.locals.vacant_for.Goals as goal

pub returns-in-Ok : goal.returns-in-Ok
returns-in-Ok c = λ rests ts is. ap port_given (sym c.in-Ok.is) ∙ pick_is c.args.pool.now rests ts is c.args.client.now c.pick.result c.pick.ensures

pub returns-in-Err : goal.returns-in-Err
returns-in-Err c = λ rests ts is. ap port_given (sym c.in-Err.is) ∙ pick_is c.args.pool.now rests ts is c.args.client.now c.pick.result c.pick.ensures
