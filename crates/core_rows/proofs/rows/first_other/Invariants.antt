use Rattle.std.proofs.Common.{◌≤◌}
use Rattle.core_rows.specs.Serving.{MayServe}
use Rattle.core_rows.proofs.rows.first_other.Given as goal

-- the moment of the last step has been reached
abbrev pub invariant-loop-i : goal.invariant-loop-i
invariant-loop-i g l =
    MayServe (g.S.LeaseStore.state l.core) (g.S.LeaseStore.terms l.core)
    × (g.S.LeaseStore.reached l.core ≤ l.now)
