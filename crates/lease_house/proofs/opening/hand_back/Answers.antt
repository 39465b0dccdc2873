use Rattle.std.proofs.Common.{arith}
use Rattle.lease_house.proofs.OpenedBooks.{back_one, same_count}
use Rattle.lease_house.proofs.opening.hand_back.Goals as goal

pub loop-book-preserved : goal.loop-book-preserved
loop-book-preserved g c =
    let books = c.loop-book.books.items in
    let left = c.pop.new.self.items in
    let pairs = c.loop-book.pairs.items in
    let new = c.put_first.new.pairs.items in
    record {
      pairs = back_one books left c.in-Some.book pairs new _ c.close.result c.in-Some.ensures.items c.close.ensures c.put_first.ensures.items c.loop-book.invariant.pairs;
      room = omega (arith, same_count books left c.in-Some.book pairs new c.close.result c.in-Some.ensures.items c.put_first.ensures.items, c.loop-book.invariant.room, c.put_first.ensures.capacity);
    }
