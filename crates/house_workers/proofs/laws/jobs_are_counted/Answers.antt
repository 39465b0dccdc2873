use Rattle.request_workers.proofs.CountLemmas.{rows_count}
use Rattle.house_workers.specs.HouseCallsOf.{calls_of}
use Rattle.house_workers.proofs.laws.jobs_are_counted.Goals as goal

pub returns : goal.returns
returns g c house shard ds r is =
    rows_count (calls_of g.D.LeaseDisk.tells g.D.LeaseDisk.seen g.D.LeaseDisk.moment g.D.LeaseDisk.left_since g.D.LeaseDisk.may_leave g.D.LeaseDisk.faults house) shard ds r is
