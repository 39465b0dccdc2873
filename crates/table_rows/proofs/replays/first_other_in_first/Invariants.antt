use Rattle.pcp_base.specs.Reached.{IsReachedFirst}
use Rattle.table_rows.proofs.replays.first_other_in_first.Given as goal

abbrev pub invariant-loop-i : goal.invariant-loop-i
invariant-loop-i l = IsReachedFirst l.replay
