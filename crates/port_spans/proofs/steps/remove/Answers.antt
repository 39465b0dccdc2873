use Rattle.std.proofs.Common.{◌≡◌, sym, ap, ◌∙◌, arith}
use Rattle.slab.specs.Slab.{values}
use Rattle.port_spans.specs.declared.runs.Run.{Run}
use Rattle.port_spans.specs.Runs.{run_at}
use Rattle.port_spans.proofs.RunLemmas.{are_runs, told_none, run_told, contains}
use Rattle.port_spans.proofs.ChangeLemmas.{untaken, gone, gone_told}
use Rattle.ordered_index.proofs.EntryLaws.{none_some, some_one}
use Rattle.port_spans.proofs.steps.remove.Goals as goal

pub returns-in_default-clause-ok : goal.returns-in_default-clause-ok
returns-in_default-clause-ok g c =
    let none = told_none c.args.slots.now c.args.runs.now c.requires c.args.first (sym c.key_at.ensures ∙ c.in_default.is) in
    untaken (values c.args.runs.now) (are_runs c.args.slots.now c.args.runs.now c.requires) c.args.first (λ q e _. none_some (run_at (values c.args.runs.now) c.args.first) q none e)

pub index-requires : goal.index-requires
index-requires g c = contains c.args.slots.now c.args.runs.now c.requires c.args.first c.in-Some.key (sym c.key_at.ensures ∙ c.in-Some.is)

pub returns-clause-kept : goal.returns-clause-kept
returns-clause-kept g c =
    gone c.args.slots.now c.args.runs.now c.requires c.remove.new.self c.in-Some.key c.fill.new.slots c.fill.ensures.places c.index.result.now c.index.ensures c.remove.ensures.updates c.fill.ensures.slots

pub returns-clause-ok : goal.returns-clause-ok
returns-clause-ok g c =
    let r = c.index.result.now in
    let first : r.first ≡ c.args.first = grind (arith, c.if-run-first.false) in
    gone_told c.args.slots.now c.args.runs.now c.requires c.remove.new.self c.in-Some.key c.fill.new.slots c.fill.ensures.places r c.index.ensures c.remove.ensures.updates c.fill.ensures.slots c.args.first first

pub returns-then-run-first-clause-ok : goal.returns-then-run-first-clause-ok
returns-then-run-first-clause-ok g c =
    let r = c.index.result.now in
    let told = run_told c.args.slots.now c.args.runs.now c.requires c.args.first c.in-Some.key r (sym c.key_at.ensures ∙ c.in-Some.is) c.index.ensures in
    untaken (values c.args.runs.now) (are_runs c.args.slots.now c.args.runs.now c.requires) c.args.first
    (λ q e begins. let same = ap (λ (t : Run g.row.V.Denot). t.first) (some_one (run_at (values c.args.runs.now) c.args.first) q r e told) in absurd (grind (arith, c.if-run-first.true, same, begins)))
