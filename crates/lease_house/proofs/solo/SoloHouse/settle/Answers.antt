use Rattle.std.proofs.Common.{◌≡◌, ◌∙◌, length, List, ap, arith}
use Rattle.shard_book.specs.Books.{BookView}
use Rattle.lease_house.proofs.BookLemmas.{house-of}
use Rattle.lease_house.proofs.CallLemmas.{settle-after, settles-house}
use Rattle.lease_house.proofs.ListLemmas.{length-put}
use Rattle.lease_house.proofs.solo.SoloHouse.settle.Goals as goal

pub invariant_of-self : goal.invariant_of-self
invariant_of-self g c =
    let d = g.D.LeaseDisk in
    let inside = c.self.inside in
    let at = c.settle_at.ensures in
    let inv = c.self.invariant.1 in
    let long : length c.settle_at.new.books.items ≡ length inside.books.items = ap (λ (bs : List (BookView g.row.D.Denot)). length bs) at.is ∙ length-put inside.books.items c.args.place at.after in (
      (settle-after d.tells d.seen d.moment d.left_since d.may_leave d.faults c.args.now c.args.place c.settle_at.result c.args.self.now inside.config inside.books.items c.settle_at.new.books.items inside.spare.items
          c.self.view_is c.self.invariant.0 at).house,
      omega (arith, long, inv),
    )

pub returns-clause-settled : goal.returns-clause-settled
returns-clause-settled g c =
    let d = g.D.LeaseDisk in
    let inside = c.self.inside in
    rw c.told_at.ensures (settles-house d.tells d.seen d.moment d.left_since d.may_leave d.faults c.args.now c.args.place c.settle_at.result c.args.self.now (house-of inside.config c.settle_at.new.books.items inside.spare.items)
    (settle-after d.tells d.seen d.moment d.left_since d.may_leave d.faults c.args.now c.args.place c.settle_at.result c.args.self.now inside.config inside.books.items c.settle_at.new.books.items inside.spare.items
    c.self.view_is c.self.invariant.0 c.settle_at.ensures)).0

pub returns-clause-refused : goal.returns-clause-refused
returns-clause-refused g c =
    let d = g.D.LeaseDisk in
    let inside = c.self.inside in
    rw c.told_at.ensures (settles-house d.tells d.seen d.moment d.left_since d.may_leave d.faults c.args.now c.args.place c.settle_at.result c.args.self.now (house-of inside.config c.settle_at.new.books.items inside.spare.items)
    (settle-after d.tells d.seen d.moment d.left_since d.may_leave d.faults c.args.now c.args.place c.settle_at.result c.args.self.now inside.config inside.books.items c.settle_at.new.books.items inside.spare.items
    c.self.view_is c.self.invariant.0 c.settle_at.ensures)).1

pub returns-clause-house : goal.returns-clause-house
returns-clause-house g c =
    let d = g.D.LeaseDisk in
    let inside = c.self.inside in
    (settle-after d.tells d.seen d.moment d.left_since d.may_leave d.faults c.args.now c.args.place c.settle_at.result c.args.self.now inside.config inside.books.items c.settle_at.new.books.items inside.spare.items
    c.self.view_is c.self.invariant.0 c.settle_at.ensures).house

pub returns-clause-cause : goal.returns-clause-cause
returns-clause-cause g c =
    let d = g.D.LeaseDisk in
    let inside = c.self.inside in
    rw c.told_at.ensures (settle-after d.tells d.seen d.moment d.left_since d.may_leave d.faults c.args.now c.args.place c.settle_at.result c.args.self.now inside.config inside.books.items c.settle_at.new.books.items inside.spare.items
    c.self.view_is c.self.invariant.0 c.settle_at.ensures).cause
