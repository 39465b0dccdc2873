use Rattle.std.proofs.Common.{List}
use Rattle.pcp_base.specs.declared.datagrams.Entry.{Entry}
use Rattle.shared_house.specs.HouseCalls.{loss_behind, raised_by_loss}
use Rattle.shared_house.proofs.HeldLemmas.{if-err-weaker, if-ok-both, loses-held, refuses-loss}
use Rattle.journal_sides.proofs.QuietLemmas.{quiet_unless}
use Rattle.shared_house.proofs.serving.settle_and_lose.Goals as goal

pub returns-in-Err-clause-refused : goal.returns-in-Err-clause-refused
returns-in-Err-clause-refused g c =
    let o = c.args.turn.now.key in
    let q = c.settle_and_publish.new.pass in
    c.in-Err.ensures.refused (λ (log : List Entry). loss_behind o log c.args.now q.epoch.heard)
    (raised_by_loss o c.args.now)

pub returns-in-Ok-clause-lost : goal.returns-in-Ok-clause-lost
returns-in-Ok-clause-lost g c =
    let d = g.D.LeaseDisk in
    let o = c.args.turn.now.key in
    let s = c.in-Ok.ensures in
    let a = c.lose_and_publish.ensures in
    if-ok-both c.lose_and_publish.result _ _ _ a.lost a.counted (λ notes lost counted.
    loses-held d.tells d.seen d.moment d.left_since d.may_leave d.faults o c.args.now
    c.settle_and_publish.new.held c.lose_and_publish.new.held c.args.pass.now
    c.settle_and_publish.new.pass c.lose_and_publish.new.pass lost.0
    s.settled s.held.stands a.held.stands s.epoch notes counted a.heard)

pub returns-in-Ok-clause-refused : goal.returns-in-Ok-clause-refused
returns-in-Ok-clause-refused g c =
    let d = g.D.LeaseDisk in
    let o = c.args.turn.now.key in
    let s = c.in-Ok.ensures in
    let a = c.lose_and_publish.ensures in
    if-err-weaker c.lose_and_publish.result _ _ a.refused (λ fault refused.
    refuses-loss d.tells d.seen d.moment d.left_since d.may_leave d.faults o c.args.now
    c.settle_and_publish.new.held c.lose_and_publish.new.held c.args.pass.now
    c.settle_and_publish.new.pass c.lose_and_publish.new.pass fault
    s.settled s.held.stands a.held.stands s.epoch refused a.heard)

pub returns-in-Ok-clause-quiet : goal.returns-in-Ok-clause-quiet
returns-in-Ok-clause-quiet g c =
    quiet_unless g.D.LeaseDisk.faults c.args.held.now.book.journal.pair
    c.settle_and_publish.new.held.book.journal.pair
    c.lose_and_publish.new.held.book.journal.pair c.lose_and_publish.result
    c.in-Ok.ensures.quiet.done c.lose_and_publish.ensures.quiet

pub returns-in-Err-clause-marked : goal.returns-in-Err-clause-marked
returns-in-Err-clause-marked g c =
    let o = c.args.turn.now.key in
    let q = c.settle_and_publish.new.pass in
    c.in-Err.ensures.marked
    (λ (log : List Entry). loss_behind o log c.args.now q.epoch.heard)
