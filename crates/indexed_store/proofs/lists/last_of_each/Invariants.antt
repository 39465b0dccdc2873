use Rattle.indexed_store.proofs.SortLemmas.{IsKept}
use Rattle.indexed_store.proofs.lists.last_of_each.Given as goal

abbrev pub invariant-loop-i : goal.invariant-loop-i
invariant-loop-i l = IsKept l.last.items l.owners l.i
