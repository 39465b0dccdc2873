use Rattle.lease_journal.proofs.DurableWrites.{wrote, and_synced}
use Rattle.lease_journal.proofs.writes.write_durably.Goals as goal

pub returns-in_err-write_at-clause-moments : goal.returns-in_err-write_at-clause-moments
returns-in_err-write_at-clause-moments g c = λ only.
    let d = g.D.LeaseDisk in
    let laws = g.met.D.LeaseDisk in
    wrote d.seen d.may_leave d.moment d.left_since laws.counts_now laws.only_now _ _ _ _ c.write_at.ensures.time c.write_at.ensures.crash only

pub returns-in_err-sync-clause-moments : goal.returns-in_err-sync-clause-moments
returns-in_err-sync-clause-moments g c = λ only.
    let d = g.D.LeaseDisk in
    let laws = g.met.D.LeaseDisk in
    and_synced d.seen d.may_leave d.moment d.left_since laws.counts_now laws.only_now _ _ _ _ c.sync.ensures.time c.sync.ensures.crash
    (wrote d.seen d.may_leave d.moment d.left_since laws.counts_now laws.only_now _ _ _ _ c.write_at.ensures.time c.write_at.ensures.crash only)

pub returns-clause-moments : goal.returns-clause-moments
returns-clause-moments g c = λ only.
    let d = g.D.LeaseDisk in
    let laws = g.met.D.LeaseDisk in
    and_synced d.seen d.may_leave d.moment d.left_since laws.counts_now laws.only_now _ _ _ _ c.sync.ensures.time c.sync.ensures.crash
    (wrote d.seen d.may_leave d.moment d.left_since laws.counts_now laws.only_now _ _ _ _ c.write_at.ensures.time c.write_at.ensures.crash only)
