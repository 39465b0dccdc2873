use Rattle.journal_sides.proofs.FillLemmas.{read_none}
use Rattle.lease_journal.proofs.openings.front_of_side.Goals as goal

pub returns-in-A-clause-read : goal.returns-in-A-clause-read
returns-in-A-clause-read g c =
    let d = g.D.LeaseDisk in
    let laws = g.met.D.LeaseDisk in
    record { a = c.front_of.ensures.read; b = read_none d.may_leave d.moment d.left_since laws.counts_now laws.only_now c.args.pair.now.b }

pub returns-in-B-clause-read : goal.returns-in-B-clause-read
returns-in-B-clause-read g c =
    let d = g.D.LeaseDisk in
    let laws = g.met.D.LeaseDisk in
    record { a = read_none d.may_leave d.moment d.left_since laws.counts_now laws.only_now c.args.pair.now.a; b = c.front_of-in-B.ensures.read }
