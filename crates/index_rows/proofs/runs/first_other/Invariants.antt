use Rattle.std.proofs.Common.{◌≡◌}
use Rattle.index_rows.proofs.runs.first_other.Given as goal

abbrev pub invariant-loop-number : goal.invariant-loop-number
invariant-loop-number g l = (l.runs.low ≡ l.low) × (l.runs.high ≡ l.high) × (l.plain.low ≡ l.low) × (l.plain.high ≡ l.high)
