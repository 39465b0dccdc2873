-- A map with one entry more has as many levels at least.
use Rattle.std.proofs.Common.{ℕ, ◌+◌, ◌≤◌, arith}
use Rattle.pcp_base.specs.declared.leases.TheConstants.{MOST_LEASES}
use Rattle.step_count.specs.Laws.{LevelsGrow}
use Rattle.step_count.specs.Levels.{levels}

pub one-level : LevelsGrow → (n : ℕ) → n ≤ MOST_LEASES → levels n ≤ levels (n + 1)
one-level grow n few = grow n (n + 1) (omega arith) (omega (arith, few))
