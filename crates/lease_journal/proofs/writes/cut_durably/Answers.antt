use Rattle.lease_journal.proofs.DurableWrites.{cut_off, and_synced}
use Rattle.lease_journal.proofs.writes.cut_durably.Goals as goal

pub returns-in_err-cut-clause-moments : goal.returns-in_err-cut-clause-moments
returns-in_err-cut-clause-moments g c = λ only.
    let d = g.D.LeaseDisk in
    let laws = g.met.D.LeaseDisk in
    cut_off d.seen d.may_leave d.moment d.left_since laws.counts_now laws.only_now _ _ _ c.cut.ensures.time c.cut.ensures.crash only

pub returns-clause-moments : goal.returns-clause-moments
returns-clause-moments g c = λ only.
    let d = g.D.LeaseDisk in
    let laws = g.met.D.LeaseDisk in
    and_synced d.seen d.may_leave d.moment d.left_since laws.counts_now laws.only_now _ _ _ _ c.sync.ensures.time c.sync.ensures.crash
    (cut_off d.seen d.may_leave d.moment d.left_since laws.counts_now laws.only_now _ _ _ c.cut.ensures.time c.cut.ensures.crash only)
