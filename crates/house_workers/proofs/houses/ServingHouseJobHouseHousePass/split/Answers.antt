use Rattle.house_workers.proofs.CallLemmas.{splits_by}
use Rattle.house_workers.proofs.houses.ServingHouseJobHouseHousePass.split.Goals as goal

pub returns-clause-other : goal.returns-clause-other
returns-clause-other g c =
    splits_by g.D.LeaseDisk.tells g.D.LeaseDisk.seen g.D.LeaseDisk.moment g.D.LeaseDisk.left_since g.D.LeaseDisk.may_leave g.D.LeaseDisk.faults
    _ _ _ _ c.split.result c.self.view_is c.requires c.split.ensures.pass c.split.ensures.new
