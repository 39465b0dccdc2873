use Rattle.std.proofs.Common.{ap, ◌∙◌}
use Rattle.leased_ports.specs.Leased.{vacated}
use Rattle.leased_ports.proofs.ViewLemmas.{kept_vacated, view_vacated}
use Rattle.leased_ports.proofs.ports.LeasedPorts.clear.Goals as goal

pub invariant_of-self : goal.invariant_of-self
invariant_of-self c =
    let a = c.self.inside in
    kept_vacated a.low a.high a.quota c.vacate.new.ends a.pool a.pool c.vacate.new.pool c.vacate.new.wheel c.vacate.ensures.ends (λ l h q is. is) c.self.invariant.on c.vacate.ensures.pool c.vacate.ensures.wheel

pub returns : goal.returns
returns c =
    let a = c.self.inside in
    view_vacated a.low a.high a.quota c.vacate.new.ends c.vacate.ensures.ends ∙ ap vacated c.self.view_is
