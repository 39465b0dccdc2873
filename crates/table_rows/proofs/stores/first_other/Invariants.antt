use Rattle.std.proofs.Common.{◌≡◌}
use Rattle.pcp_base.specs.Reached.{IsReached}
use Rattle.table_rows.proofs.stores.first_other.Given as goal

abbrev pub invariant-loop-i : goal.invariant-loop-i
invariant-loop-i g l = IsReached l.store.state × (l.store.reached ≡ l.now)
