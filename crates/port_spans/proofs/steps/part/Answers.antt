use Rattle.std.proofs.Common.{◌≡◌, ℕ, suc, ◌+◌, ◌-◌, cond, Some, ap, ◌∙◌, subst, arith}
use Rattle.slab.specs.Slab.{Updates}
use Rattle.port_runs.specs.Ports.{is_in_run}
use Rattle.port_spans.specs.Kept.{slot_at}
use Rattle.port_spans.proofs.ChangeLemmas.{roomier}
use Rattle.port_spans.proofs.PartLemmas.{parted, part_told}
use Rattle.port_spans.proofs.steps.part.Goals as goal

pub returns-in_err-insert-clause-kept : goal.returns-in_err-insert-clause-kept
returns-in_err-insert-clause-kept g c = roomier c.args.slots.now c.args.runs.now c.insert.new.self _ c.requires.kept c.in_err-insert.ensures.err

pub returns-clause-kept : goal.returns-clause-kept
returns-clause-kept g c =
    let r = c.args.run in let place = c.args.place in let key = c.in_ok-insert.field-0 in
    let number : c.in_ok-slot.slot ≡ suc key = omega (arith, c.in_ok-slot.ensures, c.in_ok-insert.ensures.key) in
    let same : r.count - (place - r.first) ≡ r.first + r.count - place = omega (arith, c.requires.behind) in
    parted c.args.slots.now c.args.runs.now c.requires.kept r c.args.key place c.requires.there c.requires.behind c.requires.within
    key c.in_ok-insert.ensures.was_vacant c.insert.new.self c.overwrite.new.runs
    (subst (λ (n : ℕ). Updates c.args.runs.now c.insert.new.self key (Some (record { first = place; count = n; value = r.value }))) same c.in_ok-insert.ensures.updates)
    c.overwrite.ensures c.fill.new.slots c.fill.ensures.places c.in_ok-slot.slot number
    (λ at. c.fill.ensures.slots at ∙ ap (λ (n : ℕ). cond (is_in_run place n at) c.in_ok-slot.slot (slot_at c.args.slots.now at)) same)

pub returns-clause-ok : goal.returns-clause-ok
returns-clause-ok g c =
    let r = c.args.run in let place = c.args.place in let key = c.in_ok-insert.field-0 in
    let number : c.in_ok-slot.slot ≡ suc key = omega (arith, c.in_ok-slot.ensures, c.in_ok-insert.ensures.key) in
    let same : r.count - (place - r.first) ≡ r.first + r.count - place = omega (arith, c.requires.behind) in
    part_told c.args.slots.now c.args.runs.now c.requires.kept r c.args.key place c.requires.there c.requires.behind c.requires.within
    key c.in_ok-insert.ensures.was_vacant c.insert.new.self c.overwrite.new.runs
    (subst (λ (n : ℕ). Updates c.args.runs.now c.insert.new.self key (Some (record { first = place; count = n; value = r.value }))) same c.in_ok-insert.ensures.updates)
    c.overwrite.ensures c.fill.new.slots c.fill.ensures.places c.in_ok-slot.slot number
    (λ at. c.fill.ensures.slots at ∙ ap (λ (n : ℕ). cond (is_in_run place n at) c.in_ok-slot.slot (slot_at c.args.slots.now at)) same)
