use Rattle.house_workers.specs.HouseCallsOf.{calls_of}
use Rattle.house_workers.proofs.FullLemmas.{filled_rows}
use Rattle.house_workers.proofs.laws.full_queues_were_filled.Goals as goal

pub returns : goal.returns
returns g c config groups port begun old new rows pairs served =
    filled_rows (calls_of g.D.LeaseDisk.tells g.D.LeaseDisk.seen g.D.LeaseDisk.moment g.D.LeaseDisk.left_since g.D.LeaseDisk.may_leave g.D.LeaseDisk.faults begun.house) config groups port begun.fresh _ served.then _ rows served.answers
