use Rattle.std.proofs.Common.{◌≤◌, ◌+◌, ◌*◌, ◌&&◌, cond, List, ap, ◌∙◌, sym, subst}
use Rattle.pcp_base.specs.declared.leases.End.{End}
use Rattle.pcp_base.specs.Tables.{same_protocol}
use Rattle.port_runs.specs.Ports.{is_in_run}
use Rattle.port_spans.specs.declared.runs.Run.{Run}
use Rattle.port_spans.specs.Along.{spot_of}
use Rattle.leased_ports.specs.Leased.{Leased, end_of, vacated}
use Rattle.leased_ports.specs.Among.{runs_among}
use Rattle.leased_ports.specs.Steps.{IsOwnRun, last_along}
use Rattle.leased_ports.proofs.ViewLemmas.{only_ends, kept_assigned, kept_vacated, view_vacated}
use Rattle.leased_ports.proofs.ports.LeasedPorts.put_run.Goals as goal

pub invariant_of-self : goal.invariant_of-self
invariant_of-self g c =
    let a = c.self.inside in
    let first = c.args.first.now in
    kept_assigned a.low a.high a.quota a.settled a.reached a.ends first.endpoint.protocol first.external c.args.count (last_along first) c.assign.new.ends a.pool c.assign.new.pool c.assign.new.wheel
    c.assign.ensures.on c.self.invariant.on c.in_default.ensures.ok c.self.invariant.order (c.in_default.ensures.late a.settled c.self.invariant.order c.self.invariant.late)

pub returns-in_default-clause-ok : goal.returns-in_default-clause-ok
returns-in_default-clause-ok g c = let a = c.self.inside in only_ends a.low a.high a.quota a.settled a.reached a.ends c.assign.new.ends c.args.self.now c.self.view_is

pub returns-in_default-clause-ports : goal.returns-in_default-clause-ports
returns-in_default-clause-ports g c q port =
    let first = c.args.first.now in
    c.in_default.ensures.ok.ends q port
    ∙ ap (λ (v : Leased). cond (same_protocol first.endpoint.protocol q && is_in_run first.external c.args.count port) (last_along first port) (end_of v q port)) c.self.view_is

pub invariant_of-self-2 : goal.invariant_of-self-2
invariant_of-self-2 g c =
    let a = c.self.inside in
    kept_vacated a.low a.high a.quota c.vacate.new.ends a.pool c.assign.new.pool c.vacate.new.pool c.vacate.new.wheel c.vacate.ensures.ends c.assign.ensures.on c.self.invariant.on c.vacate.ensures.pool c.vacate.ensures.wheel

pub returns-clause-err : goal.returns-clause-err
returns-clause-err g c = let a = c.self.inside in view_vacated a.low a.high a.quota c.vacate.new.ends c.vacate.ensures.ends ∙ ap vacated c.self.view_is

pub returns-in_default-clause-own : goal.returns-in_default-clause-own
returns-in_default-clause-own g c run own = c.assign.ensures.own run (subst (λ (runs : List (Run End)). IsOwnRun runs c.args.first.now c.args.count run) (sym (ap (λ (v : Leased). v.runs) c.self.view_is)) own)

pub returns-in_default-clause-steps : goal.returns-in_default-clause-steps
returns-in_default-clause-steps g c =
    subst (λ (v : Leased). c.assign.new.steps ≤ c.args.steps.now + 484 + 207 * runs_among v.runs (spot_of c.args.first.now) c.args.count) c.self.view_is c.assign.ensures.steps

pub returns-clause-own : goal.returns-clause-own
returns-clause-own g c run own = c.assign.ensures.own run (subst (λ (runs : List (Run End)). IsOwnRun runs c.args.first.now c.args.count run) (sym (ap (λ (v : Leased). v.runs) c.self.view_is)) own)

pub returns-clause-steps : goal.returns-clause-steps
returns-clause-steps g c =
    subst (λ (v : Leased). c.assign.new.steps ≤ c.args.steps.now + 484 + 207 * runs_among v.runs (spot_of c.args.first.now) c.args.count) c.self.view_is c.assign.ensures.steps

pub returns-in_default-clause-behind : goal.returns-in_default-clause-behind
returns-in_default-clause-behind g c n = c.in_default.ensures.behind n ∙ ap (λ (v : Leased). runs_among v.runs (spot_of c.args.first.now + c.args.count) n) c.self.view_is
