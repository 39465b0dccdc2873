use Rattle.std.proofs.Common.{ap, ◌∙◌, arith}
use Rattle.expiry_wheel.specs.Moments.{expiries_by, written}
use Rattle.expiry_wheel.proofs.Moments.{written_set}
use Rattle.expiry_wheel.proofs.wheel.Wheel.set_counted.Goals as goal

pub returns-clause-set : goal.returns-clause-set
returns-clause-set g c =
    ap expiries_by c.set.ensures.moments ∙ written_set c.self.inside.moments.items c.args.id c.args.moment (omega (arith, c.self.invariant.ids, c.requires))
    ∙ ap (λ m. written m c.args.id c.args.moment) c.self.view_is
