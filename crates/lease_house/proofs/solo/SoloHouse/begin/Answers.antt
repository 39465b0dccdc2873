use Rattle.lease_house.proofs.HandingBack.{memory_touches_none}
use Rattle.lease_house.proofs.OpenedBooks.{opened_house}
use Rattle.lease_house.proofs.solo.SoloHouse.begin.Goals as goal

pub returns-in-Err-clause-refused : goal.returns-in-Err-clause-refused
returns-in-Err-clause-refused g c =
    let d = g.D.LeaseDisk in
    memory_touches_none d.tells d.seen d.moment d.left_since d.may_leave d.faults c.args.m c.args.config.now.externals c.args.disks.items c.requires.enough

pub invariant_of-result : goal.invariant_of-result
invariant_of-result g c =
    let d = g.D.LeaseDisk in
    let opened = c.in-Ok-open_books.ensures in
    (opened_house d.tells d.seen d.moment d.left_since d.may_leave d.faults c.args.config.now c.in-Ok.copy c.args.m _ _ _ c.in-Ok.ensures c.requires.config opened.opened opened.books, opened.room)

pub returns-in-Ok-open_books-clause-house : goal.returns-in-Ok-open_books-clause-house
returns-in-Ok-open_books-clause-house g c =
    let d = g.D.LeaseDisk in
    let opened = c.in-Ok-open_books.ensures in
    opened_house d.tells d.seen d.moment d.left_since d.may_leave d.faults c.args.config.now c.in-Ok.copy c.args.m _ _ _ c.in-Ok.ensures c.requires.config opened.opened opened.books
