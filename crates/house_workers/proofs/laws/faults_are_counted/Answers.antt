use Rattle.house_workers.proofs.FaultLemmas.{few_faults}
use Rattle.house_workers.proofs.laws.faults_are_counted.Goals as goal

pub returns : goal.returns
returns g c house shard ds r is o ended pair ends =
    few_faults g.D.LeaseDisk.tells g.D.LeaseDisk.seen g.D.LeaseDisk.moment g.D.LeaseDisk.left_since g.D.LeaseDisk.may_leave g.D.LeaseDisk.faults
    house shard ds r is o ended pair ends
