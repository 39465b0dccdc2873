use Rattle.std.proofs.Common.{◌≡◌, sym, ap, ◌∙◌, arith}
use Rattle.slab.specs.Slab.{values}
use Rattle.port_spans.specs.declared.runs.Run.{Run}
use Rattle.port_spans.proofs.RunLemmas.{are_runs, told_none, told_has, run_told, contains, in_from, in_to}
use Rattle.port_spans.proofs.ChangeLemmas.{uncut}
use Rattle.ordered_index.proofs.EntryLaws.{none_some, some_one}
use Rattle.port_spans.specs.Runs.{run_at}
use Rattle.port_spans.proofs.steps.cut.Goals as goal

pub returns-in_default-clause-ok : goal.returns-in_default-clause-ok
returns-in_default-clause-ok g c =
    let none = told_none c.args.slots.now c.args.runs.now c.requires c.args.place (sym c.key_at.ensures ∙ c.in_default.is) in
    uncut (values c.args.runs.now) (are_runs c.args.slots.now c.args.runs.now c.requires) c.args.place (λ q e _. none_some (run_at (values c.args.runs.now) c.args.place) q none e)

pub index-run-requires : goal.index-run-requires
index-run-requires g c = contains c.args.slots.now c.args.runs.now c.requires c.args.place c.in-Some.key (sym c.key_at.ensures ∙ c.in-Some.is)

pub returns-then-run-place-clause-ok : goal.returns-then-run-place-clause-ok
returns-then-run-place-clause-ok g c =
    let r = c.index-run.result.now in
    let told = run_told c.args.slots.now c.args.runs.now c.requires c.args.place c.in-Some.key r (sym c.key_at.ensures ∙ c.in-Some.is) c.index-run.ensures in
    let first : r.first ≡ c.args.place = grind (arith, c.if-run-place.true) in
    uncut (values c.args.runs.now) (are_runs c.args.slots.now c.args.runs.now c.requires) c.args.place
    (λ q e less. let same = ap (λ (t : Run g.row.V.Denot). t.first) (some_one (run_at (values c.args.runs.now) c.args.place) q r e told) in absurd (omega (arith, less, same, first)))

pub part-requires-clause-behind : goal.part-requires-clause-behind
part-requires-clause-behind g c =
    let r = c.index-run.result.now in
    let has = told_has c.args.slots.now c.args.runs.now c.requires c.args.place c.in-Some.key r (sym c.key_at.ensures ∙ c.in-Some.is) c.index-run.ensures in
    grind (arith, in_from r.first r.count c.args.place has, c.if-run-place.false)

pub part-requires-clause-within : goal.part-requires-clause-within
part-requires-clause-within g c =
    let r = c.index-run.result.now in
    in_to r.first r.count c.args.place (told_has c.args.slots.now c.args.runs.now c.requires c.args.place c.in-Some.key r (sym c.key_at.ensures ∙ c.in-Some.is) c.index-run.ensures)
