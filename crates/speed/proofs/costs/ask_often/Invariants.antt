use Rattle.std.proofs.Common.{◌≤◌}
use Rattle.speed.specs.Serving.{MayServe}
use Rattle.speed.proofs.costs.ask_often.Given as goal

-- requests may be served at the moment
abbrev pub invariant-loop-round : goal.invariant-loop-round
invariant-loop-round g l =
    MayServe (g.S.LeaseStore.state l.core) (g.S.LeaseStore.terms l.core)
    × (g.S.LeaseStore.reached l.core ≤ l.m)
