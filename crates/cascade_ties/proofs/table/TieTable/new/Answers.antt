use Rattle.std.proofs.Common.{◌≤◌, sym, subst, arith}
use Rattle.cascade_ties.specs.Kept.{IsTieTable}
use Rattle.cascade_ties.proofs.RestLemmas.{Rests}
use Rattle.cascade_ties.proofs.StepLemmas.{fresh_counts, fresh_table}
use Rattle.cascade_ties.proofs.table.TieTable.new.Goals as goal

pub invariant_of-result : goal.invariant_of-result
invariant_of-result c =
    let top : c.args.high ≤ 65535 = omega (arith, c.ranges.high.fits) in
    let table = subst (λ (rests : Rests). IsTieTable c.in_ok-kept.kept c.in_ok-pool.pool rests) (sym c.in_ok-rests.ensures)
    (subst (λ pool. IsTieTable c.in_ok-kept.kept pool _) (sym c.in_ok-pool.ensures) (fresh_table c.in_ok-kept.kept c.args.low c.args.high c.in_ok-kept.ensures c.requires.some top)) in
    (table, fresh_counts c.in_ok-kept.kept c.in_ok-counts.counts c.in_ok-kept.ensures c.in_ok-counts.ensures)
