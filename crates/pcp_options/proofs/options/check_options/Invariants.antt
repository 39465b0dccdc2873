use Rattle.std.proofs.Common.{length}
use Rattle.pcp_options.proofs.CheckLemmas.{IsChecked}
use Rattle.pcp_options.proofs.options.check_options.Given as goal

abbrev pub invariant-loop-option : goal.invariant-loop-option
invariant-loop-option l = IsChecked l.frame l.fn.text l.rest l.seen l.items

abbrev pub decreases-loop-option : goal.decreases-loop-option
decreases-loop-option l = length l.rest
