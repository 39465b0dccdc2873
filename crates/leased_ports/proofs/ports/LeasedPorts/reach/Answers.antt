use Rattle.std.proofs.Common.{◌≡◌, ℕ, ap, ◌∙◌, arith}
use Rattle.leased_ports.specs.Leased.{Leased, leased, at_moment}
use Rattle.leased_ports.specs.Counts.{ports_due}
use Rattle.leased_ports.proofs.PhaseLemmas.{begun-later}
use Rattle.leased_ports.proofs.EndedLemmas.{due-ports}
use Rattle.leased_ports.proofs.ports.LeasedPorts.reach.Goals as goal

pub see_to_some-self-inside-requires-clause-in_step : goal.see_to_some-self-inside-requires-clause-in_step
see_to_some-self-inside-requires-clause-in_step g c = c.self.invariant.in_step

pub see_to_some-self-inside-requires-clause-begun : goal.see_to_some-self-inside-requires-clause-begun
see_to_some-self-inside-requires-clause-begun g c =
    let a = c.self.inside in
    let seen : a.reached ≡ c.args.self.now.reached = ap (λ (v : Leased). v.reached) c.self.view_is in
    begun-later a.reached c.get-now.result a.ends a.wheel (omega (arith, seen, c.requires, c.get-now.ensures.value)) c.self.invariant.begun

pub see_to_some-self-inside-requires-clause-later : goal.see_to_some-self-inside-requires-clause-later
see_to_some-self-inside-requires-clause-later g c =
    let a = c.self.inside in
    let seen : a.reached ≡ c.args.self.now.reached = ap (λ (v : Leased). v.reached) c.self.view_is in
    let order = c.self.invariant.order in
    omega (arith, order, seen, c.requires, c.get-now.ensures.value)

pub see_to_some-self-inside-requires-clause-late : goal.see_to_some-self-inside-requires-clause-late
see_to_some-self-inside-requires-clause-late g c = c.self.invariant.late

pub invariant_of-self : goal.invariant_of-self
invariant_of-self g c =
    let a = c.self.inside in
    record {
      on = c.see_to_some-self-inside.ensures.on a.low a.high a.quota c.self.invariant.on;
      in_step = c.see_to_some-self-inside.ensures.in_step;
      begun = c.see_to_some-self-inside.ensures.begun;
      order = c.see_to_some-self-inside.ensures.most;
      late = c.see_to_some-self-inside.ensures.late;
    }

pub returns-clause-moved : goal.returns-clause-moved
returns-clause-moved g c =
    let a = c.self.inside in
    let n = c.see_to_some-self-inside.result in
    ap (λ (k : ℕ). leased a.low a.high a.quota n k a.ends) c.get-now.ensures.value ∙ ap (λ (v : Leased). record (at_moment c.args.m v) { settled = n }) c.self.view_is

pub returns-clause-from : goal.returns-clause-from
returns-clause-from g c =
    let from = c.see_to_some-self-inside.ensures.from in
    let seen : c.self.inside.settled ≡ c.args.self.now.settled = ap (λ (v : Leased). v.settled) c.self.view_is in
    omega (arith, from, seen)

pub returns-clause-all : goal.returns-clause-all
returns-clause-all g c few =
    let a = c.self.inside in
    let now = c.get-now.result in
    let due = due-ports a.low a.high a.quota a.settled now a.ends a.wheel c.self.invariant.in_step.scheduled c.self.invariant.late in
    let seen : ports_due (leased a.low a.high a.quota a.settled now a.ends) ≡ ports_due (at_moment c.args.m c.args.self.now) =
    ap (λ (k : ℕ). ports_due (leased a.low a.high a.quota a.settled k a.ends)) c.get-now.ensures.value ∙ ap (λ (v : Leased). ports_due (at_moment c.args.m v)) c.self.view_is in
    c.see_to_some-self-inside.ensures.all (omega (arith, due, seen, few)) ∙ c.get-now.ensures.value

pub returns-clause-few : goal.returns-clause-few
returns-clause-few g c =
    let a = c.self.inside in
    let now = c.get-now.result in
    let due = due-ports a.low a.high a.quota a.settled now a.ends a.wheel c.self.invariant.in_step.scheduled c.self.invariant.late in
    let seen : ports_due (leased a.low a.high a.quota a.settled now a.ends) ≡ ports_due (at_moment c.args.m c.args.self.now) =
    ap (λ (k : ℕ). ports_due (leased a.low a.high a.quota a.settled k a.ends)) c.get-now.ensures.value ∙ ap (λ (v : Leased). ports_due (at_moment c.args.m v)) c.self.view_is in
    let few = c.see_to_some-self-inside.ensures.few in
    omega (arith, due, seen, few, c.get-now.ensures.value)
