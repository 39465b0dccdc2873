use Rattle.std.proofs.Common.{◌≡◌, ap, arith}
use Rattle.leased_ports.specs.Leased.{Leased, as_settled, leased}
use Rattle.leased_ports.specs.Counts.{ports_due}
use Rattle.leased_ports.proofs.EndedLemmas.{due-ports}
use Rattle.leased_ports.proofs.ports.LeasedPorts.settle.Goals as goal

pub see_to_all-requires-clause-in_step : goal.see_to_all-requires-clause-in_step
see_to_all-requires-clause-in_step g c = c.self.invariant.in_step

pub see_to_all-requires-clause-begun : goal.see_to_all-requires-clause-begun
see_to_all-requires-clause-begun g c = c.self.invariant.begun

pub see_to_all-requires-clause-late : goal.see_to_all-requires-clause-late
see_to_all-requires-clause-late g c = c.self.invariant.late

pub invariant_of-self : goal.invariant_of-self
invariant_of-self g c =
    let a = c.self.inside in
    record { on = c.see_to_all.ensures.on a.low a.high a.quota c.self.invariant.on; in_step = c.see_to_all.ensures.in_step; begun = c.see_to_all.ensures.begun; order = omega arith; late = c.see_to_all.ensures.none }

pub returns-clause-settled : goal.returns-clause-settled
returns-clause-settled g c = ap as_settled c.self.view_is

pub returns-clause-steps : goal.returns-clause-steps
returns-clause-steps g c =
    let a = c.self.inside in
    let due = due-ports a.low a.high a.quota a.settled a.reached a.ends a.wheel c.self.invariant.in_step.scheduled c.self.invariant.late in
    let seen : ports_due (leased a.low a.high a.quota a.settled a.reached a.ends) ≡ ports_due c.args.self.now = ap ports_due c.self.view_is in
    let steps = c.see_to_all.ensures.steps in
    omega (arith, due, seen, steps)

pub returns-clause-from : goal.returns-clause-from
returns-clause-from g c =
    let order = c.self.invariant.order in
    let seen : c.self.inside.settled ≡ c.args.self.now.settled = ap (λ (v : Leased). v.settled) c.self.view_is in
    omega (arith, order, seen)
