use Rattle.std.proofs.Common.{◌≤◌}
use Rattle.speed.specs.Serving.{MayServe}
use Rattle.speed.proofs.patterns.grant_singles.Given as goal

-- requests may be served at the moment
abbrev pub invariant-loop-i : goal.invariant-loop-i
invariant-loop-i g l =
    MayServe (g.S.LeaseStore.state l.core) (g.S.LeaseStore.terms l.core)
    × (g.S.LeaseStore.reached l.core ≤ l.m)
