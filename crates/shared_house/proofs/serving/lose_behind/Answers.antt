use Rattle.std.proofs.Common.{List}
use Rattle.pcp_base.specs.declared.datagrams.Entry.{Entry}
use Rattle.shared_house.specs.HouseCalls.{loss_behind, raised_by_loss}
use Rattle.shared_house.proofs.HeldLemmas.{if-err-two, if-ok-two, loses-house, refuses-house}
use Rattle.shared_house.proofs.serving.lose_behind.Goals as goal

pub returns-clause-lost : goal.returns-clause-lost
returns-clause-lost g c =
    let d = g.D.LeaseDisk in
    let o = c.args.turn.now.key in
    let q = c.settle_and_lose-told.new.pass in
    let e = c.settle_and_lose-told.ensures in
    if-ok-two c.settle_and_lose-told.result _ _ _ e.lost e.published (λ lost done shown.
    loses-house d.tells d.seen d.moment d.left_since d.may_leave d.faults o c.args.now
    c.args.pass.now c.take-held.new.pass q c.give.new.pass lost.0 lost.1
    c.take-held.ensures.pass done shown c.give.ensures e.held.stands.leads.legal)

pub returns-clause-refused : goal.returns-clause-refused
returns-clause-refused g c =
    let d = g.D.LeaseDisk in
    let o = c.args.turn.now.key in
    let q = c.settle_and_lose-told.new.pass in
    let e = c.settle_and_lose-told.ensures in
    if-err-two c.settle_and_lose-told.result _ _ _ e.refused e.marked (λ fault done marked.
    refuses-house d.tells d.seen d.moment d.left_since d.may_leave d.faults o c.args.now
    c.args.pass.now c.take-held.new.pass q c.give.new.pass
    (λ (log : List Entry). loss_behind o log c.args.now q.epoch.heard)
    (raised_by_loss o c.args.now) fault c.take-held.ensures.pass done marked c.give.ensures
    e.held.stands.leads.legal)
