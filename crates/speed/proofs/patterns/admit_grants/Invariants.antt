use Rattle.std.proofs.Common.{◌≡◌}
use Rattle.speed.proofs.patterns.admit_grants.Given as goal

-- records of the first format may be admitted
abbrev pub invariant-loop-number : goal.invariant-loop-number
invariant-loop-number g l =
    g.S.LeaseStore.replaying_first l.core
    × (g.S.LeaseStore.reached l.core ≡ (g.S.LeaseStore.state l.core).last)
