use Rattle.std.proofs.Common.{ℕ, ◌==◌, Bool, Option, Some, cond, ap, ◌∙◌, sym, arith}
use Rattle.std.specs.FinMap.{get}
use Rattle.leased_ports.specs.declared.phases.Phase.{Phase}
use Rattle.leased_ports.specs.Kept.{until}
use Rattle.port_spans.specs.Runs.{run_at}
use Rattle.leased_ports.proofs.SpotLemmas.{place_first, run_low}
use Rattle.leased_ports.proofs.BlockLemmas.{none_uses}
use Rattle.leased_ports.proofs.AmongLemmas.{inserted-behind}
use Rattle.leased_ports.proofs.AssignLemmas.{inserted}
use Rattle.leased_ports.proofs.PhaseLemmas.{none-due-set, phase-late}
use Rattle.leased_ports.proofs.steps.insert.Goals as goal

pub change_use-requires-clause-used : goal.change_use-requires-clause-used
change_use-requires-clause-used g c = none_uses c.args.ends.now c.args.pool.now c.args.wheel.now c.requires.in_step c.args.run.now c.requires.set c.requires.free

pub insert-requires-clause-small : goal.insert-requires-clause-small
insert-requires-clause-small g c = run_low c.args.run.now c.requires.set

pub returns-clause-ok : goal.returns-clause-ok
returns-clause-ok g c =
    inserted c.args.reached c.args.ends.now c.insert.new.self c.args.pool.now c.change_use.new.pool c.args.wheel.now c.set.new.wheel c.args.run.now c.phase_at-phase.result c.phase_at-phase.ensures
    c.requires.in_step c.requires.begun c.requires.set c.in_ok-insert.ensures.runs c.requires.free c.in_ok-insert.ensures.ok c.in_ok-change_use.ensures.ok
    (λ id. c.in_ok-set.ensures id ∙ ap (λ (o : Option ℕ). cond (id == c.args.run.now.first) o (get c.args.wheel.now id)) c.until.ensures)

pub returns-clause-late : goal.returns-clause-late
returns-clause-late g c seen before none =
    none-due-set seen c.args.wheel.now c.set.new.wheel c.args.run.now.first c.until.result c.in_ok-set.ensures (λ expiry h.
    let late = phase-late c.args.reached c.args.run.now.value.end expiry (ap (λ (p : Phase). until p c.args.run.now.value.end) (sym c.phase_at-phase.ensures) ∙ sym c.until.ensures ∙ h) in
    omega (arith, late, before)) none

pub returns-clause-run : goal.returns-clause-run
returns-clause-run g c =
    let r = c.args.run.now in
    c.in_ok-insert.ensures.ok r.first ∙ ap (λ (b : Bool). cond b (Some r) (run_at c.args.ends.now r.first)) (place_first r c.requires.set)

pub returns-clause-behind : goal.returns-clause-behind
returns-clause-behind g c = inserted-behind c.args.ends.now c.insert.new.self c.args.run.now c.in_ok-insert.ensures.ok
