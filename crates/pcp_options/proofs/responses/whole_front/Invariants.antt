use Rattle.std.proofs.Common.{length}
use Rattle.pcp_options.specs.Options.{found_in}
use Rattle.pcp_options.proofs.FrontLemmas.{IsFront}
use Rattle.pcp_options.proofs.responses.whole_front.Given as goal

abbrev pub invariant-loop-option : goal.invariant-loop-option
invariant-loop-option l = IsFront (found_in l.fn.text) (found_in l.rest) l.items.items

abbrev pub decreases-loop-option : goal.decreases-loop-option
decreases-loop-option l = length l.rest
