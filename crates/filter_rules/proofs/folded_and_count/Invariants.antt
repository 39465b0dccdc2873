use Rattle.filter_rules.proofs.FoldLemmas.{IsFolded}
use Rattle.filter_rules.proofs.folded_and_count.Given as goal

abbrev pub invariant-loop-i : goal.invariant-loop-i
invariant-loop-i l = IsFolded l.fn.old l.fn.new l.i l.base l.from l.folded l.count
