use Rattle.std.proofs.Common.{[]}
use Rattle.house_workers.proofs.CallLemmas.{refuses_batch_by, serves_by}
use Rattle.house_workers.proofs.houses.ServingHouseJobHouseHousePass.count.Goals as goal

pub returns-in-Err-clause-refused : goal.returns-in-Err-clause-refused
returns-in-Err-clause-refused g c =
    refuses_batch_by g.D.LeaseDisk.tells g.D.LeaseDisk.seen g.D.LeaseDisk.moment g.D.LeaseDisk.left_since g.D.LeaseDisk.may_leave g.D.LeaseDisk.faults
    _ _ _ [] _ _ _ c.self.view_is c.requires c.in-Err.ensures.pass c.in-Err.ensures.shard c.in-Err.ensures.refused

pub returns-clause-served : goal.returns-clause-served
returns-clause-served g c =
    serves_by g.D.LeaseDisk.tells g.D.LeaseDisk.seen g.D.LeaseDisk.moment g.D.LeaseDisk.left_since g.D.LeaseDisk.may_leave g.D.LeaseDisk.faults
    _ _ _ [] _ _ [] _ c.self.view_is c.requires c.in-Ok.ensures.pass c.in-Ok.ensures.shard c.in-Ok.ensures.counted
