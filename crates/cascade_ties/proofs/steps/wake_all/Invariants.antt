use Rattle.std.proofs.Common.{◌≡◌}
use Rattle.std.specs.BTreeMap.{values}
use Rattle.std.specs.FinMap.{len}
use Rattle.cascade_ties.specs.Kept.{IsTieTable, ties_of}
use Rattle.cascade_ties.specs.Ties.{still}
use Rattle.cascade_ties.proofs.steps.wake_all.Given as goal

abbrev pub invariant-loop : goal.invariant-loop
invariant-loop l =
    IsTieTable l.kept l.pool l.rests × (still l.now_ms (ties_of l.pool l.rests (values l.kept.leases)) ≡ still l.now_ms (ties_of l.initial.pool l.initial.rests (values l.kept.leases)))

abbrev pub decreases-loop : goal.decreases-loop
decreases-loop l = len l.rests
