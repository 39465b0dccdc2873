use Rattle.house_workers.proofs.CrashLemmas.{recovered}
use Rattle.house_workers.proofs.laws.crashes_are_recovered.Goals as goal

pub returns : goal.returns
returns g c =
    let d = g.D.LeaseDisk in
    recovered d.tells d.seen d.moment d.left_since d.may_leave d.faults c.crashes_are_found.ensures.found
