use Rattle.std.proofs.Common.{◌≤◌, ◌+◌, ◌*◌, ◌&&◌, cond, ap, ◌∙◌, subst}
use Rattle.pcp_base.specs.Tables.{same_protocol}
use Rattle.port_runs.specs.Ports.{is_in_run}
use Rattle.leased_ports.specs.Leased.{Leased, end_of, vacated}
use Rattle.leased_ports.specs.Among.{runs_among}
use Rattle.leased_ports.specs.Steps.{no_last}
use Rattle.port_spans.specs.Along.{spot}
use Rattle.leased_ports.proofs.ViewLemmas.{only_ends, kept_assigned, kept_vacated, view_vacated}
use Rattle.leased_ports.proofs.ports.LeasedPorts.free_run.Goals as goal

pub invariant_of-self : goal.invariant_of-self
invariant_of-self g c =
    let a = c.self.inside in
    kept_assigned a.low a.high a.quota a.settled a.reached a.ends c.args.protocol c.args.start c.args.count no_last c.release.new.ends a.pool c.release.new.pool c.release.new.wheel
    c.release.ensures.on c.self.invariant.on (c.in_default.ensures.ok a.reached c.self.invariant.begun) c.self.invariant.order (c.in_default.ensures.late a.settled c.self.invariant.late)

pub returns-in_default-clause-ok : goal.returns-in_default-clause-ok
returns-in_default-clause-ok g c = let a = c.self.inside in only_ends a.low a.high a.quota a.settled a.reached a.ends c.release.new.ends c.args.self.now c.self.view_is

pub returns-in_default-clause-ports : goal.returns-in_default-clause-ports
returns-in_default-clause-ports g c q port =
    let a = c.self.inside in
    (c.in_default.ensures.ok a.reached c.self.invariant.begun).ends q port
    ∙ ap (λ (v : Leased). cond (same_protocol c.args.protocol q && is_in_run c.args.start c.args.count port) (no_last port) (end_of v q port)) c.self.view_is

pub invariant_of-self-2 : goal.invariant_of-self-2
invariant_of-self-2 g c =
    let a = c.self.inside in
    kept_vacated a.low a.high a.quota c.vacate.new.ends a.pool c.release.new.pool c.vacate.new.pool c.vacate.new.wheel c.vacate.ensures.ends c.release.ensures.on c.self.invariant.on c.vacate.ensures.pool c.vacate.ensures.wheel

pub returns-clause-err : goal.returns-clause-err
returns-clause-err g c = let a = c.self.inside in view_vacated a.low a.high a.quota c.vacate.new.ends c.vacate.ensures.ends ∙ ap vacated c.self.view_is

pub returns-in_default-clause-steps : goal.returns-in_default-clause-steps
returns-in_default-clause-steps g c =
    subst (λ (v : Leased). c.release.new.steps ≤ c.args.steps.now + 241 + 207 * runs_among v.runs (spot c.args.protocol c.args.start) c.args.count) c.self.view_is c.release.ensures.steps

pub returns-clause-steps : goal.returns-clause-steps
returns-clause-steps g c =
    subst (λ (v : Leased). c.release.new.steps ≤ c.args.steps.now + 241 + 207 * runs_among v.runs (spot c.args.protocol c.args.start) c.args.count) c.self.view_is c.release.ensures.steps

pub returns-in_default-clause-behind : goal.returns-in_default-clause-behind
returns-in_default-clause-behind g c n = c.in_default.ensures.behind n ∙ ap (λ (v : Leased). runs_among v.runs (spot c.args.protocol c.args.start + c.args.count) n) c.self.view_is
