use Rattle.std.proofs.Common.{◌≡◌, ◌+◌, ◌<◌, Some, refl, sym, ap, ◌∙◌, arith}
use Rattle.external_pool.specs.declared.uses.Use.TheVariants.{Resting}
use Rattle.port_spans.specs.Runs.{run_at}
use Rattle.leased_ports.specs.declared.phases.Phase.{Phase}
use Rattle.leased_ports.specs.declared.phases.Phase.TheVariants.{Holds, Rests, Over}
use Rattle.leased_ports.specs.Kept.{phase_by, use_in}
use Rattle.leased_ports.proofs.UseLemmas.{may_release, gives-with_use, used-as}
use Rattle.leased_ports.proofs.FallLemmas.{no_due_run, due_set, due_uses, due_waits, due_held, due_came, due_fewer, falls_seen, falls_others, falls_in_step, falls_begun, rest_isnt_due}
use Rattle.leased_ports.proofs.PhaseLemmas.{none-due-set, none-due-removed}
use Rattle.leased_ports.proofs.falls.see_to.Goals as goal

pub returns-in_default-clause-seen : goal.returns-in_default-clause-seen
returns-in_default-clause-seen g c =
    absurd (no_due_run c.args.m c.args.ends.now c.args.pool.now c.args.wheel.now c.requires.in_step c.args.id c.requires.due (sym c.run_at.ensures.run ∙ c.in_default.is))

pub returns-in_default-clause-fewer : goal.returns-in_default-clause-fewer
returns-in_default-clause-fewer g c =
    absurd (no_due_run c.args.m c.args.ends.now c.args.pool.now c.args.wheel.now c.requires.in_step c.args.id c.requires.due (sym c.run_at.ensures.run ∙ c.in_default.is))

pub overflow_add-over : goal.overflow_add-over
overflow_add-over g c =
    let r = c.in-Some.run' in
    let set = due_set c.args.m c.args.ends.now c.args.pool.now c.args.wheel.now c.requires.in_step c.args.id c.requires.due r (sym c.run_at.ensures.run ∙ c.in-Some.is) in
    omega (arith, set.near)

pub free_ports-requires-clause-set : goal.free_ports-requires-clause-set
free_ports-requires-clause-set g c =
    due_set c.args.m c.args.ends.now c.args.pool.now c.args.wheel.now c.requires.in_step c.args.id c.requires.due c.in-Some.run' (sym c.run_at.ensures.run ∙ c.in-Some.is)

pub free_ports-requires-clause-used : goal.free_ports-requires-clause-used
free_ports-requires-clause-used g c =
    let r = c.in-Some.run' in
    let waits = c.args.wheel.now in
    let there : run_at c.args.ends.now c.args.id ≡ Some r = sym c.run_at.ensures.run ∙ c.in-Some.is in
    used-as c.args.pool.now r (use_in (phase_by waits r) r.value) (use_in c.phase_of.result r.value) (ap (λ (p : Phase). use_in p r.value) (sym c.phase_of.ensures))
    (due_uses c.args.m c.args.ends.now c.args.pool.now waits c.requires.in_step c.args.id c.requires.due r there)

pub returns-then-over-m-clause-in_step : goal.returns-then-over-m-clause-in_step
returns-then-over-m-clause-in_step g c =
    let r = c.in-Some.run' in
    let there : run_at c.args.ends.now c.args.id ≡ Some r = sym c.run_at.ensures.run ∙ c.in-Some.is in
    falls_in_step c.args.m c.args.ends.now c.args.pool.now c.args.wheel.now c.requires.in_step c.args.id c.requires.due r there Over c.free_ports.new.pool c.remove.new.wheel c.remove.ensures c.free_ports.ensures

pub returns-then-over-m-clause-begun : goal.returns-then-over-m-clause-begun
returns-then-over-m-clause-begun g c =
    let r = c.in-Some.run' in
    let there : run_at c.args.ends.now c.args.id ≡ Some r = sym c.run_at.ensures.run ∙ c.in-Some.is in
    falls_begun c.args.m c.args.ends.now c.args.pool.now c.args.wheel.now c.requires.in_step c.args.id c.requires.due r there Over c.free_ports.new.pool c.remove.new.wheel c.remove.ensures c.free_ports.ensures
    c.requires.begun c.if-over-m.true

pub returns-then-over-m-clause-fewer : goal.returns-then-over-m-clause-fewer
returns-then-over-m-clause-fewer g c =
    let r = c.in-Some.run' in
    let there : run_at c.args.ends.now c.args.id ≡ Some r = sym c.run_at.ensures.run ∙ c.in-Some.is in
    due_fewer c.args.m c.args.ends.now c.args.pool.now c.args.wheel.now c.requires.in_step c.args.id c.requires.due r there Over c.free_ports.new.pool c.remove.new.wheel c.remove.ensures refl

pub retire-requires-clause-held : goal.retire-requires-clause-held
retire-requires-clause-held g c =
    let r = c.in-Some.run' in
    let waits = c.args.wheel.now in
    let there : run_at c.args.ends.now c.args.id ≡ Some r = sym c.run_at.ensures.run ∙ c.in-Some.is in
    let late : c.args.m < r.value.end + 120 = grind (arith, c.if-over-m.false) in
    let held = due_held c.args.m c.args.ends.now c.args.pool.now waits c.requires.in_step c.args.id c.requires.due r there late in
    may_release c.args.pool.now r (due_set c.args.m c.args.ends.now c.args.pool.now waits c.requires.in_step c.args.id c.requires.due r there)
    (used-as c.args.pool.now r (use_in (phase_by waits r) r.value) (use_in Holds r.value) (ap (λ (p : Phase). use_in p r.value) held)
    (due_uses c.args.m c.args.ends.now c.args.pool.now waits c.requires.in_step c.args.id c.requires.due r there))

pub retire-requires-clause-internal : goal.retire-requires-clause-internal
retire-requires-clause-internal g c =
    let r = c.in-Some.run' in
    (due_set c.args.m c.args.ends.now c.args.pool.now c.args.wheel.now c.requires.in_step c.args.id c.requires.due r (sym c.run_at.ensures.run ∙ c.in-Some.is)).internal

pub reschedule-requires-clause-there : goal.reschedule-requires-clause-there
reschedule-requires-clause-there g c =
    due_waits c.args.m c.args.ends.now c.args.pool.now c.args.wheel.now c.requires.in_step c.args.id c.requires.due c.in-Some.run' (sym c.run_at.ensures.run ∙ c.in-Some.is)

pub reschedule-requires-clause-sometime : goal.reschedule-requires-clause-sometime
reschedule-requires-clause-sometime g c =
    let r = c.in-Some.run' in
    let set = due_set c.args.m c.args.ends.now c.args.pool.now c.args.wheel.now c.requires.in_step c.args.id c.requires.due r (sym c.run_at.ensures.run ∙ c.in-Some.is) in
    omega (arith, set.near)

pub returns-clause-in_step : goal.returns-clause-in_step
returns-clause-in_step g c =
    let r = c.in-Some.run' in
    let waits = c.args.wheel.now in
    let there : run_at c.args.ends.now c.args.id ≡ Some r = sym c.run_at.ensures.run ∙ c.in-Some.is in
    let gives = gives-with_use c.args.pool.now c.retire.new.self r.value.endpoint.protocol r.value.external r.count (Resting r.value.endpoint.address r.value.endpoint.port)
    (due_set c.args.m c.args.ends.now c.args.pool.now waits c.requires.in_step c.args.id c.requires.due r there).within c.retire.ensures in
    falls_in_step c.args.m c.args.ends.now c.args.pool.now waits c.requires.in_step c.args.id c.requires.due r there Rests c.retire.new.self c.reschedule.new.wheel c.reschedule.ensures gives

pub returns-clause-begun : goal.returns-clause-begun
returns-clause-begun g c =
    let r = c.in-Some.run' in
    let waits = c.args.wheel.now in
    let there : run_at c.args.ends.now c.args.id ≡ Some r = sym c.run_at.ensures.run ∙ c.in-Some.is in
    let gives = gives-with_use c.args.pool.now c.retire.new.self r.value.endpoint.protocol r.value.external r.count (Resting r.value.endpoint.address r.value.endpoint.port)
    (due_set c.args.m c.args.ends.now c.args.pool.now waits c.requires.in_step c.args.id c.requires.due r there).within c.retire.ensures in
    falls_begun c.args.m c.args.ends.now c.args.pool.now waits c.requires.in_step c.args.id c.requires.due r there Rests c.retire.new.self c.reschedule.new.wheel c.reschedule.ensures gives
    c.requires.begun (due_came c.args.m c.args.ends.now c.args.pool.now waits c.requires.in_step c.args.id c.requires.due r there)

pub returns-clause-fewer : goal.returns-clause-fewer
returns-clause-fewer g c =
    let r = c.in-Some.run' in
    let waits = c.args.wheel.now in
    let there : run_at c.args.ends.now c.args.id ≡ Some r = sym c.run_at.ensures.run ∙ c.in-Some.is in
    let late : c.args.m < r.value.end + 120 = grind (arith, c.if-over-m.false) in
    due_fewer c.args.m c.args.ends.now c.args.pool.now waits c.requires.in_step c.args.id c.requires.due r there Rests c.retire.new.self c.reschedule.new.wheel c.reschedule.ensures
    (rest_isnt_due c.args.m r.value.end late)

pub returns-then-over-m-clause-late : goal.returns-then-over-m-clause-late
returns-then-over-m-clause-late g c seen before none = none-due-removed seen c.args.wheel.now c.remove.new.wheel c.in-Some.run'.first c.remove.ensures none

pub returns-clause-late : goal.returns-clause-late
returns-clause-late g c seen before none =
    let r = c.in-Some.run' in
    let soon : c.args.m < r.value.end + 120 = grind (arith, c.if-over-m.false) in
    none-due-set seen c.args.wheel.now c.reschedule.new.wheel r.first (Some (r.value.end + 120)) c.reschedule.ensures (λ expiry h.
    let same : r.value.end + 120 ≡ expiry = (let told : Some (r.value.end + 120) ≡ Some expiry = h in cc) in
    omega (arith, same, soon, before)) none

pub returns-then-over-m-clause-seen : goal.returns-then-over-m-clause-seen
returns-then-over-m-clause-seen g c =
    let r = c.in-Some.run' in
    let there : run_at c.args.ends.now c.args.id ≡ Some r = sym c.run_at.ensures.run ∙ c.in-Some.is in
    falls_seen c.args.m c.args.ends.now c.args.pool.now c.args.wheel.now c.requires.in_step c.args.id c.requires.due r there Over c.free_ports.new.pool c.remove.new.wheel c.remove.ensures refl

pub returns-then-over-m-clause-others : goal.returns-then-over-m-clause-others
returns-then-over-m-clause-others g c =
    let r = c.in-Some.run' in
    let there : run_at c.args.ends.now c.args.id ≡ Some r = sym c.run_at.ensures.run ∙ c.in-Some.is in
    falls_others c.args.m c.args.ends.now c.args.pool.now c.args.wheel.now c.requires.in_step c.args.id c.requires.due r there Over c.free_ports.new.pool c.remove.new.wheel c.remove.ensures

pub returns-clause-seen : goal.returns-clause-seen
returns-clause-seen g c =
    let r = c.in-Some.run' in
    let waits = c.args.wheel.now in
    let there : run_at c.args.ends.now c.args.id ≡ Some r = sym c.run_at.ensures.run ∙ c.in-Some.is in
    let late : c.args.m < r.value.end + 120 = grind (arith, c.if-over-m.false) in
    falls_seen c.args.m c.args.ends.now c.args.pool.now waits c.requires.in_step c.args.id c.requires.due r there Rests c.retire.new.self c.reschedule.new.wheel c.reschedule.ensures
    (rest_isnt_due c.args.m r.value.end late)

pub returns-clause-others : goal.returns-clause-others
returns-clause-others g c =
    let r = c.in-Some.run' in
    let there : run_at c.args.ends.now c.args.id ≡ Some r = sym c.run_at.ensures.run ∙ c.in-Some.is in
    falls_others c.args.m c.args.ends.now c.args.pool.now c.args.wheel.now c.requires.in_step c.args.id c.requires.due r there Rests c.retire.new.self c.reschedule.new.wheel c.reschedule.ensures
