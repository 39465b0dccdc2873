use Rattle.std.proofs.Common.{◌≡◌, suc, arith}
use Rattle.port_spans.proofs.ChangeLemmas.{roomier, come, come_told}
use Rattle.port_spans.proofs.steps.put.Goals as goal

pub returns-in_err-insert-clause-kept : goal.returns-in_err-insert-clause-kept
returns-in_err-insert-clause-kept g c = roomier c.args.slots.now c.args.runs.now c.insert.new.self _ c.requires.kept c.in_err-insert.ensures.err

pub returns-clause-kept : goal.returns-clause-kept
returns-clause-kept g c =
    let key = c.in_ok-insert.field-0 in
    let number : c.in_ok-slot.slot ≡ suc key = omega (arith, c.in_ok-slot.ensures, c.in_ok-insert.ensures.key) in
    come c.args.slots.now c.args.runs.now c.requires.kept c.insert.new.self key c.fill.new.slots c.fill.ensures.places c.args.run c.requires.some c.requires.small c.requires.free
    c.in_ok-insert.ensures.was_vacant c.in_ok-insert.ensures.updates c.in_ok-slot.slot number c.fill.ensures.slots

pub returns-clause-ok : goal.returns-clause-ok
returns-clause-ok g c =
    let key = c.in_ok-insert.field-0 in
    let number : c.in_ok-slot.slot ≡ suc key = omega (arith, c.in_ok-slot.ensures, c.in_ok-insert.ensures.key) in
    come_told c.args.slots.now c.args.runs.now c.requires.kept c.insert.new.self key c.fill.new.slots c.fill.ensures.places c.args.run c.requires.some c.requires.small c.requires.free
    c.in_ok-insert.ensures.was_vacant c.in_ok-insert.ensures.updates c.in_ok-slot.slot number c.fill.ensures.slots
