use Rattle.house_workers.proofs.CrashLemmas.{kept_at}
use Rattle.house_workers.proofs.laws.crashes_are_along_histories.Goals as goal

pub returns : goal.returns
returns g c config groups port m before pairs begun old new result begins serves place x p now last at there back
    came =
    kept_at g.D.LeaseDisk.tells g.D.LeaseDisk.seen g.D.LeaseDisk.moment g.D.LeaseDisk.left_since g.D.LeaseDisk.may_leave g.D.LeaseDisk.faults
    config m before pairs begun serves.then.passes serves.ended place x p now last begins serves.ends at there back
    came
