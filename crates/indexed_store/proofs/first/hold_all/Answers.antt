use Rattle.indexed_store.specs.Holding.{IsAgreed}
use Rattle.indexed_store.proofs.RunLemmas.{get-All}
use Rattle.indexed_store.proofs.FirstLemmas.{held-begins, held-more}
use Rattle.indexed_store.proofs.first.hold_all.Goals as goal

pub hold_run-requires-clause-run : goal.hold_run-requires-clause-run
hold_run-requires-clause-run g c = (get-All (IsAgreed c.args.leases.now.found) c.args.runs.now c.loop-run.run-index _ c.requires.runs c.loop-run-test.true).even

pub loop-run-init : goal.loop-run-init
loop-run-init g c = (λ terms h. h, c.requires.reached, held-begins c.args.leases.now.found c.args.ports.now)

pub loop-run-preserved : goal.loop-run-preserved
loop-run-preserved g c = (
  λ terms h. c.hold_run.ensures.terms terms (c.loop-run.invariant.0 terms h),
  c.in_ok-hold_run.ensures.reached,
  held-more c.args.m c.args.leases.now.found c.args.runs.now c.loop-run.run-index _ c.args.ports.now c.loop-run.ports c.hold_run.new.ports c.requires.live c.loop-run-test.true
      (get-All (IsAgreed c.args.leases.now.found) c.args.runs.now c.loop-run.run-index _ c.requires.runs c.loop-run-test.true) c.loop-run.invariant.2 c.in_ok-hold_run.ensures.ports,
)

pub returns-in_err-hold_run-clause-terms : goal.returns-in_err-hold_run-clause-terms
returns-in_err-hold_run-clause-terms g c = λ terms h. c.hold_run.ensures.terms terms (c.loop-run.invariant.0 terms h)
