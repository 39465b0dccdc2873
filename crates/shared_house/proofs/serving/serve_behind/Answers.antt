use Rattle.std.proofs.Common.{List}
use Rattle.pcp_base.specs.declared.datagrams.Entry.{Entry}
use Rattle.shared_house.specs.HouseCalls.{batch_behind, raised_behind}
use Rattle.shared_house.proofs.HeldLemmas.{if-err-two, if-ok-two, serves-house, refuses-house}
use Rattle.shared_house.proofs.serving.serve_behind.Goals as goal

pub returns-clause-served : goal.returns-clause-served
returns-clause-served g c =
    let d = g.D.LeaseDisk in
    let o = c.args.turn.now.key in
    let q = c.settle_and_answer-told.new.pass in
    let e = c.settle_and_answer-told.ensures in
    if-ok-two c.settle_and_answer-told.result _ _ _ e.served e.published (λ served done shown.
    serves-house d.tells d.seen d.moment d.left_since d.may_leave d.faults o c.args.now
    c.args.batch.now c.args.pass.now c.take-held.new.pass q c.give.new.pass served.replies.items
    served.told c.take-held.ensures.pass done shown c.give.ensures e.held.stands.leads.legal)

pub returns-clause-refused : goal.returns-clause-refused
returns-clause-refused g c =
    let d = g.D.LeaseDisk in
    let o = c.args.turn.now.key in
    let q = c.settle_and_answer-told.new.pass in
    let e = c.settle_and_answer-told.ensures in
    if-err-two c.settle_and_answer-told.result _ _ _ e.refused e.marked (λ fault done marked.
    refuses-house d.tells d.seen d.moment d.left_since d.may_leave d.faults o c.args.now
    c.args.pass.now c.take-held.new.pass q c.give.new.pass
    (λ (log : List Entry). batch_behind o log c.args.now q.epoch.heard c.args.batch.now)
    (raised_behind o) fault c.take-held.ensures.pass done marked c.give.ensures
    e.held.stands.leads.legal)
