use Rattle.std.proofs.Common.{◌≡◌, length}
use Rattle.std.specs.BTreeMap.{values}
use Rattle.cascade_ties.specs.Kept.{AreCounted, IsTieTable, ties_of}
use Rattle.cascade_ties.specs.Ties.{still}
use Rattle.cascade_ties.proofs.steps.drop_ties.Given as goal

abbrev pub invariant-loop-alloc : goal.invariant-loop-alloc
invariant-loop-alloc l =
    IsTieTable l.kept l.pool l.rests × (still l.now_ms (ties_of l.pool l.rests (values l.kept.leases)) ≡ still l.now_ms (ties_of l.initial.pool l.rests (values l.initial.kept.leases)))
    × AreCounted l.counts (values l.kept.leases)

abbrev pub decreases-loop-alloc : goal.decreases-loop-alloc
decreases-loop-alloc l = length (values l.kept.leases)
