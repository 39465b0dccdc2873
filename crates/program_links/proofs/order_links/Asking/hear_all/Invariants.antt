use Rattle.std.proofs.Common.{◌≡◌, length, ◌+◌, ◌-◌}
use Rattle.program_links.specs.declared.order_links.TheConstants.{LONGEST_ANSWER, PIECE}
use Rattle.program_links.proofs.order_links.Asking.hear_all.Given as goal

abbrev pub invariant-loop-piece : goal.invariant-loop-piece
invariant-loop-piece l = length l.piece ≡ PIECE

abbrev pub decreases-loop-piece : goal.decreases-loop-piece
decreases-loop-piece l = LONGEST_ANSWER + 1 - length l.answer.items
