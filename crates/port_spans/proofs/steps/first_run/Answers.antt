use Rattle.std.proofs.Common.{◌≡◌, ◌<◌, sym, ◌∙◌, arith}
use Rattle.port_spans.proofs.RunLemmas.{next_some, next_none, past_one}
use Rattle.port_spans.proofs.steps.first_run.Goals as goal

pub returns-then-run-at : goal.returns-then-run-at
returns-then-run-at g c =
    let at = c.loop-at.at in
    let first : c.in-Some.run'.first ≡ at = grind (arith, c.if-run-at.true) in
    let before : at < c.args.end = omega (arith, c.loop-at-test.true, c.min-at-end.ensures) in
    next_some c.args.slots.now c.args.runs.now c.requires c.args.place c.args.end at c.in-Some.run' c.loop-at.invariant.1 c.loop-at.invariant.0 before (sym c.run_at.ensures ∙ c.in-Some.is) first

pub returns : goal.returns
returns g c =
    let at = c.loop-at.at in
    next_none c.args.slots.now c.args.runs.now c.requires c.args.place c.args.end at c.loop-at.invariant.1
    (past_one at c.args.end (omega (arith, c.loop-at-test.false, c.min-at-end.ensures)))
