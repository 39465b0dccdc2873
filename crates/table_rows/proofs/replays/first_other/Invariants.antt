use Rattle.pcp_base.specs.Reached.{IsReached}
use Rattle.table_rows.proofs.replays.first_other.Given as goal

abbrev pub invariant-loop-i : goal.invariant-loop-i
invariant-loop-i l = IsReached l.replay
