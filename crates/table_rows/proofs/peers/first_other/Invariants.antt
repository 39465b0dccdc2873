use Rattle.std.proofs.Common.{◌≡◌}
use Rattle.table_rows.proofs.peers.first_other.Given as goal

abbrev pub invariant-loop-number : goal.invariant-loop-number
invariant-loop-number g l = l.table.found ≡ l.plain
