use Rattle.std.proofs.Common.{◌≤◌}
use Rattle.speed.specs.Serving.{MayServe}
use Rattle.speed.proofs.serving.fill.Given as goal

-- requests may be served at the moment
abbrev pub invariant-loop-number : goal.invariant-loop-number
invariant-loop-number g l =
    MayServe (g.S.LeaseStore.state l.core) (g.S.LeaseStore.terms l.core)
    × (g.S.LeaseStore.reached l.core ≤ l.m)
