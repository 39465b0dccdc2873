use Rattle.house_workers.proofs.CauseLemmas.{cause_at}
use Rattle.house_workers.proofs.laws.faulted_rows_have_causes.Goals as goal

pub returns : goal.returns
returns g c config groups port m before pairs begun old new rows begins serves place row now there back =
    cause_at g.D.LeaseDisk.tells g.D.LeaseDisk.seen g.D.LeaseDisk.moment g.D.LeaseDisk.left_since g.D.LeaseDisk.may_leave g.D.LeaseDisk.faults
    config groups port m before pairs begun old new rows begins serves place row now there back
