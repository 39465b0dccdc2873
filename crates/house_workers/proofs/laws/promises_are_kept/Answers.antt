use Rattle.house_workers.proofs.PromisedLemmas.{promised_at}
use Rattle.house_workers.proofs.laws.promises_are_kept.Goals as goal

pub returns : goal.returns
returns g c =
    promised_at g.D.LeaseDisk.tells g.D.LeaseDisk.seen g.D.LeaseDisk.moment g.D.LeaseDisk.left_since g.D.LeaseDisk.may_leave g.D.LeaseDisk.faults
