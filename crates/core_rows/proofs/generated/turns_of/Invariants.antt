use Rattle.std.proofs.Common.{◌≤◌}
use Rattle.core_rows.specs.Serving.{MayServe}
use Rattle.core_rows.proofs.generated.turns_of.Given as goal

-- the moment of the last request has been reached
abbrev pub invariant-loop : goal.invariant-loop
invariant-loop g l =
    MayServe (g.S.LeaseStore.state l.core) (g.S.LeaseStore.terms l.core)
    × (g.S.LeaseStore.reached l.core ≤ l.now)
