use Rattle.std.proofs.Common.{List, []}
use Rattle.pcp_base.specs.declared.datagrams.Entry.{Entry}
use Rattle.shared_house.specs.HouseCalls.{batch_behind, raised_behind}
use Rattle.shared_house.proofs.HeldLemmas.{if-err-two, if-ok-both, serves-house, refuses-house}
use Rattle.shared_house.proofs.serving.count_behind.Goals as goal

pub returns-clause-counted : goal.returns-clause-counted
returns-clause-counted g c =
    let d = g.D.LeaseDisk in
    let o = c.args.turn.now.key in
    let q = c.settle_and_count-told.new.pass in
    let e = c.settle_and_count-told.ensures in
    if-ok-both c.settle_and_count-told.result _ _ _ e.counted e.published (λ done counted shown.
    serves-house d.tells d.seen d.moment d.left_since d.may_leave d.faults o c.args.now
    [] c.args.pass.now c.take-held.new.pass q c.give.new.pass []
    counted.1 c.take-held.ensures.pass done shown c.give.ensures e.held.stands.leads.legal)

pub returns-clause-refused : goal.returns-clause-refused
returns-clause-refused g c =
    let d = g.D.LeaseDisk in
    let o = c.args.turn.now.key in
    let q = c.settle_and_count-told.new.pass in
    let e = c.settle_and_count-told.ensures in
    if-err-two c.settle_and_count-told.result _ _ _ e.refused e.marked (λ fault done marked.
    refuses-house d.tells d.seen d.moment d.left_since d.may_leave d.faults o c.args.now
    c.args.pass.now c.take-held.new.pass q c.give.new.pass
    (λ (log : List Entry). batch_behind o log c.args.now q.epoch.heard [])
    (raised_behind o) fault c.take-held.ensures.pass done marked c.give.ensures
    e.held.stands.leads.legal)
