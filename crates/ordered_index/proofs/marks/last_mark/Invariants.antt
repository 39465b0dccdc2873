use Rattle.std.proofs.Common.{◌+◌, ◌≤◌}
use Rattle.ordered_index.proofs.MarkLemmas.{NoneFrom}
use Rattle.ordered_index.proofs.marks.last_mark.Given as goal

-- no mark from the end on
abbrev pub invariant-loop-end : goal.invariant-loop-end
invariant-loop-end l = record {
  none : NoneFrom l.words l.n l.end;
  within : l.end ≤ l.n + 1;
}

abbrev pub decreases-loop-end : goal.decreases-loop-end
decreases-loop-end l = l.end
