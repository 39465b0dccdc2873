use Rattle.std.proofs.Common.{◌≡◌}
use Rattle.pcp_base.specs.Reached.{IsReached}
use Rattle.table_rows.proofs.stores.apply_all.Given as goal

abbrev pub invariant-loop-row : goal.invariant-loop-row
invariant-loop-row g l = IsReached l.store.state × (l.other.state ≡ l.store.state) × (l.store.reached ≡ l.store.state.last)
