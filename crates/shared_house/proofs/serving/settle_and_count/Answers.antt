use Rattle.std.proofs.Common.{List, [], refl}
use Rattle.pcp_base.specs.declared.datagrams.Entry.{Entry}
use Rattle.shared_house.specs.HouseCalls.{batch_behind, raised_behind}
use Rattle.shared_house.proofs.HeldLemmas.{fails-held, if-err-weaker, on-ok-weaker, serves-held}
use Rattle.journal_sides.proofs.QuietLemmas.{quiet_unless}
use Rattle.shared_house.proofs.serving.settle_and_count.Goals as goal

pub returns-in-Err-clause-refused : goal.returns-in-Err-clause-refused
returns-in-Err-clause-refused g c =
    let o = c.args.turn.now.key in
    let q = c.settle_and_publish.new.pass in
    c.in-Err.ensures.refused
    (λ (log : List Entry). batch_behind o log c.args.now q.epoch.heard [])
    (raised_behind o)

pub returns-in-Ok-clause-counted : goal.returns-in-Ok-clause-counted
returns-in-Ok-clause-counted g c =
    let d = g.D.LeaseDisk in
    let o = c.args.turn.now.key in
    let s = c.in-Ok.ensures in
    let a = c.count_and_publish.ensures in
    on-ok-weaker c.count_and_publish.result _ _ a.counted (λ notes.
    serves-held d.tells d.seen d.moment d.left_since d.may_leave d.faults o c.args.config.now
    c.args.now [] c.settle_and_publish.new.held c.args.pass.now
    c.settle_and_publish.new.pass c.count_and_publish.new.pass []
    c.requires.batch.config_is s.settled s.held.stands s.epoch notes refl a.heard)

pub returns-in-Ok-clause-refused : goal.returns-in-Ok-clause-refused
returns-in-Ok-clause-refused g c =
    let d = g.D.LeaseDisk in
    let o = c.args.turn.now.key in
    let s = c.in-Ok.ensures in
    let a = c.count_and_publish.ensures in
    if-err-weaker c.count_and_publish.result _ _ a.refused (λ fault refused.
    fails-held d.tells d.seen d.moment d.left_since d.may_leave d.faults o c.args.config.now
    c.args.now [] c.settle_and_publish.new.held c.args.pass.now
    c.settle_and_publish.new.pass c.count_and_publish.new.pass fault
    c.requires.batch.config_is s.settled s.held.stands s.epoch refused a.heard)

pub returns-in-Ok-clause-quiet : goal.returns-in-Ok-clause-quiet
returns-in-Ok-clause-quiet g c =
    quiet_unless g.D.LeaseDisk.faults c.args.held.now.book.journal.pair
    c.settle_and_publish.new.held.book.journal.pair
    c.count_and_publish.new.held.book.journal.pair c.count_and_publish.result
    c.in-Ok.ensures.quiet.done c.count_and_publish.ensures.quiet

pub returns-in-Err-clause-marked : goal.returns-in-Err-clause-marked
returns-in-Err-clause-marked g c =
    let o = c.args.turn.now.key in
    let q = c.settle_and_publish.new.pass in
    c.in-Err.ensures.marked
    (λ (log : List Entry). batch_behind o log c.args.now q.epoch.heard [])
