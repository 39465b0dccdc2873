use Rattle.std.proofs.Common.{ℕ, ◌==◌, Bool, Option, Some, cond, refl, sym, ap, ◌∙◌, arith}
use Rattle.std.specs.Option.{option_map}
use Rattle.std.specs.FinMap.{get}
use Rattle.std.proofs.lemmas.Bool.{eq-eqb}
use Rattle.port_spans.specs.Runs.{run_at, with_value}
use Rattle.leased_ports.specs.declared.phases.Phase.{Phase}
use Rattle.leased_ports.specs.Kept.{until, phase_by, use_in, IsSet}
use Rattle.leased_ports.proofs.UseLemmas.{used-as}
use Rattle.leased_ports.proofs.BlockLemmas.{run_uses}
use Rattle.leased_ports.proofs.AmongLemmas.{renewed-among}
use Rattle.leased_ports.proofs.AssignLemmas.{renewed_assigned}
use Rattle.leased_ports.proofs.PhaseLemmas.{none-due-set, phase-late}
use Rattle.port_spans.proofs.SpotLemmas.{if-some}
use Rattle.leased_ports.proofs.steps.renew.Goals as goal

pub change_use-requires-clause-set : goal.change_use-requires-clause-set
change_use-requires-clause-set g c = let r = c.args.run.now in if-some IsSet (run_at c.args.ends.now r.first) r c.requires.there (c.requires.in_step.scheduled.set r.first)

pub change_use-requires-clause-used : goal.change_use-requires-clause-used
change_use-requires-clause-used g c =
    let r = c.args.run.now in
    used-as c.args.pool.now r (use_in (phase_by c.args.wheel.now r) r.value) (use_in c.phase_of.result r.value) (ap (λ (p : Phase). use_in p r.value) (sym c.phase_of.ensures))
    (run_uses c.args.ends.now c.args.pool.now c.args.wheel.now c.requires.in_step r.first r c.requires.there
    (if-some IsSet (run_at c.args.ends.now r.first) r c.requires.there (c.requires.in_step.scheduled.set r.first)))

pub returns-clause-ok : goal.returns-clause-ok
returns-clause-ok g c =
    let r = c.args.run.now in
    renewed_assigned r c.args.last.now c.requires.same c.args.reached c.args.ends.now c.set_value.new.self c.args.pool.now c.change_use.new.pool c.args.wheel.now c.set.new.wheel
    c.phase_at-phase.result c.phase_at-phase.ensures c.requires.in_step c.requires.begun c.requires.there
    (if-some IsSet (run_at c.args.ends.now r.first) r c.requires.there (c.requires.in_step.scheduled.set r.first)) c.requires.near c.set_value.ensures.runs c.set_value.ensures.ok c.in_ok-change_use.ensures.ok
    (λ id. c.in_ok-set.ensures id ∙ ap (λ (o : Option ℕ). cond (id == r.first) o (get c.args.wheel.now id)) c.until.ensures)

pub returns-clause-late : goal.returns-clause-late
returns-clause-late g c seen before none =
    none-due-set seen c.args.wheel.now c.set.new.wheel c.args.run.now.first c.until.result c.in_ok-set.ensures (λ expiry h.
    let late = phase-late c.args.reached c.args.last.now.end expiry (ap (λ (p : Phase). until p c.args.last.now.end) (sym c.phase_at-phase.ensures) ∙ sym c.until.ensures ∙ h) in
    omega (arith, late, before)) none

pub returns-clause-run : goal.returns-clause-run
returns-clause-run g c =
    let r = c.args.run.now in
    let last = c.args.last.now in
    c.set_value.ensures.ok r.first ∙ ap (option_map (with_value r.first last)) c.requires.there
    ∙ ap (λ (b : Bool). Some (cond b (record r { value = last }) r)) (eq-eqb r.first r.first refl)

pub returns-clause-among : goal.returns-clause-among
returns-clause-among g c = renewed-among c.args.ends.now c.set_value.new.self c.args.run.now.first c.args.last.now c.set_value.ensures.ok
