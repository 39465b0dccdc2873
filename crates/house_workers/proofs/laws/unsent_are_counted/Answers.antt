use Rattle.house_workers.proofs.UnsentLemmas.{unsent_along}
use Rattle.house_workers.specs.HouseCallsOf.{calls_of}
use Rattle.house_workers.proofs.laws.unsent_are_counted.Goals as goal

pub returns : goal.returns
returns g c house shard ds r is =
    unsent_along (calls_of g.D.LeaseDisk.tells g.D.LeaseDisk.seen g.D.LeaseDisk.moment g.D.LeaseDisk.left_since g.D.LeaseDisk.may_leave g.D.LeaseDisk.faults house) is.works.calls r.old r.new is.works.does
