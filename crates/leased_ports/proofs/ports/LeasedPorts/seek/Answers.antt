use Rattle.std.proofs.Common.{◌≡◌, ◌+◌, ◌*◌, ◌≤◌, IfSome, subst, arith}
use Rattle.external_pool.specs.Choosing.{IsLongest}
use Rattle.leased_ports.specs.Leased.{Leased, leased}
use Rattle.leased_ports.specs.Counts.{due_before, ports_due}
use Rattle.leased_ports.specs.Plain.{uses_now}
use Rattle.leased_ports.proofs.EndedLemmas.{due-before, one-due}
use Rattle.leased_ports.proofs.SearchLemmas.{near-ports}
use Rattle.leased_ports.proofs.ports.LeasedPorts.seek.Goals as goal

pub seek-requires-clause-on : goal.seek-requires-clause-on
seek-requires-clause-on g c = let a = c.self.inside in (a.low, a.quota, c.self.invariant.on)

pub seek-requires-clause-in_step : goal.seek-requires-clause-in_step
seek-requires-clause-in_step g c = c.self.invariant.in_step

pub seek-requires-clause-begun : goal.seek-requires-clause-begun
seek-requires-clause-begun g c = c.self.invariant.begun

pub invariant_of-self : goal.invariant_of-self
invariant_of-self g c =
    let a = c.self.inside in
    record {
      on = c.seek.ensures.on a.low a.quota c.self.invariant.on;
      in_step = c.seek.ensures.in_step;
      begun = c.seek.ensures.begun;
      order = c.self.invariant.order;
      late = c.seek.ensures.late a.settled c.self.invariant.order c.self.invariant.late;
    }

pub returns-clause-same : goal.returns-clause-same
returns-clause-same g c = c.self.view_is

pub returns-clause-longest : goal.returns-clause-longest
returns-clause-longest g c =
    let a = c.self.inside in
    subst (λ (v : Leased). IsLongest (uses_now v c.args.protocol) c.args.parity c.args.room c.seek.result) c.self.view_is (c.seek.ensures.longest a.low a.quota c.self.invariant.on)

pub returns-clause-steps : goal.returns-clause-steps
returns-clause-steps g c =
    let a = c.self.inside in
    let v : Leased = leased a.low a.high a.quota a.settled a.reached a.ends in
    let some = due-before a.low a.high a.quota a.settled a.reached a.ends a.wheel c.self.invariant.in_step.scheduled c.self.invariant.late c.args.protocol 65536 (omega arith) in
    let all = one-due v c.args.protocol in
    let steps = c.seek.ensures.steps in
    subst (λ (w : Leased). c.seek.new.steps ≤ c.args.steps.now + 113 + 279 * ports_due w) c.self.view_is (omega (arith, some, all, steps))

pub returns-clause-near : goal.returns-clause-near
returns-clause-near g c =
    let a = c.self.inside in
    subst (λ (w : Leased). IfSome c.seek.result (λ run. run.count ≡ c.args.room → c.seek.new.steps ≤ c.args.steps.now + 113 + 279 * due_before w c.args.protocol (run.start + run.count))) c.self.view_is
    (near-ports a.low a.high a.quota a.settled a.reached a.ends a.wheel c.self.invariant.in_step.scheduled c.self.invariant.late c.args.protocol c.args.room c.args.steps.now c.seek.new.steps c.seek.result
    c.seek.ensures.within c.seek.ensures.near)
