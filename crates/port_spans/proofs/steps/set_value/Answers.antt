use Rattle.std.proofs.Common.{◌≡◌, sym, ap, ◌∙◌, arith}
use Rattle.slab.specs.Slab.{values}
use Rattle.port_spans.specs.declared.runs.Run.{Run}
use Rattle.port_spans.specs.Runs.{run_at}
use Rattle.port_spans.proofs.RunLemmas.{are_runs, told_none, run_told, contains}
use Rattle.port_spans.proofs.ChangeLemmas.{unset, renewed_kept, renew_told}
use Rattle.ordered_index.proofs.EntryLaws.{none_some, some_one}
use Rattle.port_spans.proofs.steps.set_value.Goals as goal

pub returns-in_default-clause-ok : goal.returns-in_default-clause-ok
returns-in_default-clause-ok g c =
    let none = told_none c.args.slots.now c.args.runs.now c.requires c.args.first (sym c.key_at.ensures ∙ c.in_default.is) in
    unset (values c.args.runs.now) (are_runs c.args.slots.now c.args.runs.now c.requires) c.args.first (λ q e _. none_some (run_at (values c.args.runs.now) c.args.first) q none e) c.args.value

pub index-run-requires : goal.index-run-requires
index-run-requires g c = contains c.args.slots.now c.args.runs.now c.requires c.args.first c.in-Some.key (sym c.key_at.ensures ∙ c.in-Some.is)

pub returns-then-run-first-clause-kept : goal.returns-then-run-first-clause-kept
returns-then-run-first-clause-kept g c =
    renewed_kept c.args.slots.now c.args.runs.now c.requires c.overwrite.new.runs c.in-Some.key c.index-run.result.now c.args.value c.index-run.ensures c.overwrite.ensures

pub returns-then-run-first-clause-ok : goal.returns-then-run-first-clause-ok
returns-then-run-first-clause-ok g c =
    let r = c.index-run.result.now in
    let first : r.first ≡ c.args.first = grind (arith, c.if-run-first.true) in
    renew_told c.args.slots.now c.args.runs.now c.requires c.overwrite.new.runs c.in-Some.key r c.args.value c.index-run.ensures c.overwrite.ensures c.args.first first

pub returns-else-run-first-clause-ok : goal.returns-else-run-first-clause-ok
returns-else-run-first-clause-ok g c =
    let r = c.index-run.result.now in
    let told = run_told c.args.slots.now c.args.runs.now c.requires c.args.first c.in-Some.key r (sym c.key_at.ensures ∙ c.in-Some.is) c.index-run.ensures in
    unset (values c.args.runs.now) (are_runs c.args.slots.now c.args.runs.now c.requires) c.args.first
    (λ q e begins. let same = ap (λ (t : Run g.row.V.Denot). t.first) (some_one (run_at (values c.args.runs.now) c.args.first) q r e told) in absurd (grind (arith, c.if-run-first.false, same, begins)))
    c.args.value
