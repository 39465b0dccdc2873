use Rattle.house_workers.proofs.CrashLemmas.{acknowledged}
use Rattle.house_workers.proofs.OwnLemmas.{noted_along}
use Rattle.house_workers.proofs.laws.acknowledged_entries_are_kept.Goals as goal

pub returns : goal.returns
returns g c house shard ds r is o ended pair ends =
    acknowledged g.D.LeaseDisk.tells g.D.LeaseDisk.seen g.D.LeaseDisk.moment g.D.LeaseDisk.left_since g.D.LeaseDisk.may_leave g.D.LeaseDisk.faults
    o is.works.calls r.old.pass r.new.pass ended pair
    (noted_along g.D.LeaseDisk.tells g.D.LeaseDisk.seen g.D.LeaseDisk.moment g.D.LeaseDisk.left_since g.D.LeaseDisk.may_leave g.D.LeaseDisk.faults
    house is.works.calls r.old r.new is.works.does) ends
