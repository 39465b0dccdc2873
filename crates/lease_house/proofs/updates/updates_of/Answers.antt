use Rattle.std.proofs.Common.{◌≡◌, None}
use Rattle.shard_book.specs.Books.{IsBook}
use Rattle.lease_house.specs.SoloOpenings.{book_updates}
use Rattle.lease_house.proofs.UpdateLemmas.{all_get, flat_on}
use Rattle.lease_house.proofs.updates.updates_of.Goals as goal

pub loop-book-preserved : goal.loop-book-preserved
loop-book-preserved g c =
    flat_on (book_updates c.args.base) c.args.books.now c.loop-book.book-index c.book-item.result _ _ c.loop-book-test.true c.book-item.is c.loop-book.invariant c.in_ok-push_updates.ensures

pub push_updates-requires-clause-settled : goal.push_updates-requires-clause-settled
push_updates-requires-clause-settled g c = all_get (λ b. b.fault ≡ None) c.args.books.now c.loop-book.book-index c.book-item.result c.requires.settled c.loop-book-test.true c.book-item.is

pub push_updates-requires-clause-address : goal.push_updates-requires-clause-address
push_updates-requires-clause-address g c =
    let d = g.D.LeaseDisk in
    (all_get (IsBook d.tells d.seen d.may_leave) c.args.books.now c.loop-book.book-index c.book-item.result c.requires.books c.loop-book-test.true c.book-item.is).address
