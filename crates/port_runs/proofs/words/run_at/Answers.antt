use Rattle.std.proofs.Common.{subst, sym, ℕ, arith}
use Rattle.port_runs.specs.Flags.{flags_of, IsSetCountAt}
use Rattle.port_runs.proofs.WordFlags.{count_at_end, count_stops, count_on}
use Rattle.port_runs.proofs.words.run_at.Goals as goal

pub returns-then-place-ge-FLAGS : goal.returns-then-place-ge-FLAGS
returns-then-place-ge-FLAGS c =
    let l = c.loop-count in
    count_at_end c.args.words.now c.args.start c.args.most l.count c.requires.words l.invariant.set c.loop-count-test.true c.if-place-ge-FLAGS.true

pub returns-then-place-run-lt64 : goal.returns-then-place-run-lt64
returns-then-place-run-lt64 c =
    let l = c.loop-count in
    let run = c.run_from-run.result in
    subst (λ (n : ℕ). IsSetCountAt (flags_of c.args.words.now) c.args.start c.args.most n) (sym c.min.ensures)
    (count_stops c.args.words.now c.args.start c.args.most l.count c.requires.words l.invariant.set run c.if-place-ge-FLAGS.false c.run_from-run.ensures c.if-place-run-lt64.true)

pub loop-count-preserved : goal.loop-count-preserved
loop-count-preserved c =
    let l = c.loop-count in
    let run = c.run_from-run.result in
    record {
      within = omega (arith, c.if-place-ge-FLAGS.false, c.run_from-run.ensures.within);
      set = count_on c.args.words.now c.args.start c.args.most l.count c.requires.words l.invariant.set run c.if-place-ge-FLAGS.false c.run_from-run.ensures;
    }
