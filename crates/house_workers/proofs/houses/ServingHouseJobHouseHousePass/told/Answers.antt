use Rattle.house_workers.proofs.CallLemmas.{told_by}
use Rattle.house_workers.proofs.houses.ServingHouseJobHouseHousePass.told.Goals as goal

pub returns : goal.returns
returns g c =
    told_by g.D.LeaseDisk.tells g.D.LeaseDisk.seen g.D.LeaseDisk.moment g.D.LeaseDisk.left_since g.D.LeaseDisk.may_leave g.D.LeaseDisk.faults
    _ _ _ _ _ c.self.view_is c.requires c.told.ensures.pass c.told.ensures.shard c.told.ensures.history c.told.ensures.heard
