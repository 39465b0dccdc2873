use Rattle.std.proofs.Common.{◌≤◌}
use Rattle.core_rows.specs.Serving.{MayServe}
use Rattle.core_rows.proofs.most.first_ungranted.Given as goal

-- requests may be served at the moment
abbrev pub invariant-loop-port : goal.invariant-loop-port
invariant-loop-port g l =
    MayServe (g.S.LeaseStore.state l.core) (g.S.LeaseStore.terms l.core)
    × (g.S.LeaseStore.reached l.core ≤ l.m)
