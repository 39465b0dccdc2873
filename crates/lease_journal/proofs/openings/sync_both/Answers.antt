use Rattle.lease_journal.proofs.OpenLaws.{synced_a, synced_both}
use Rattle.lease_journal.proofs.openings.sync_both.Goals as goal

pub returns-in_err-sync-clause-moments : goal.returns-in_err-sync-clause-moments
returns-in_err-sync-clause-moments g c =
    let d = g.D.LeaseDisk in
    let laws = g.met.D.LeaseDisk in
    synced_a d.may_leave d.moment d.left_since laws.counts_now laws.only_now c.args.pair.now c.sync.new.self c.sync.ensures.time c.sync.ensures.crash

pub returns-in_err-sync-2-clause-moments : goal.returns-in_err-sync-2-clause-moments
returns-in_err-sync-2-clause-moments g c =
    let d = g.D.LeaseDisk in
    let laws = g.met.D.LeaseDisk in
    synced_both d.may_leave d.moment d.left_since laws.counts_now laws.only_now c.args.pair.now c.sync.new.self c.sync-2.new.self c.sync.ensures.time c.sync.ensures.crash c.sync-2.ensures.time c.sync-2.ensures.crash

pub returns-clause-moments : goal.returns-clause-moments
returns-clause-moments g c =
    let d = g.D.LeaseDisk in
    let laws = g.met.D.LeaseDisk in
    synced_both d.may_leave d.moment d.left_since laws.counts_now laws.only_now c.args.pair.now c.sync.new.self c.sync-2.new.self c.sync.ensures.time c.sync.ensures.crash c.sync-2.ensures.time c.sync-2.ensures.crash
