use Rattle.lease_house.proofs.CrashLemmas.{crashes-are-found, others-begin-anew}
use Rattle.lease_house.proofs.crash_laws.crashes_are_found.Goals as goal

pub returns-clause-found : goal.returns-clause-found
returns-clause-found g c =
    let d = g.D.LeaseDisk in
    crashes-are-found d.tells d.seen d.moment d.left_since d.may_leave d.faults c.one_journal.ensures.state c.one_journal.ensures.alone

pub returns-clause-anew : goal.returns-clause-anew
returns-clause-anew g c =
    let d = g.D.LeaseDisk in
    others-begin-anew d.tells d.seen d.moment d.left_since d.may_leave d.faults c.one_journal.ensures.alone
