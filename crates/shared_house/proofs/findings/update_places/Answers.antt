use Rattle.std.proofs.Common.{ℕ, ◌+◌, ap}
use Rattle.shared_house.specs.Findings.{update_places}
use Rattle.shared_house.proofs.FindingLemmas.{places-end, places-on}
use Rattle.shared_house.proofs.findings.update_places.Goals as goal

pub loop-book-preserved : goal.loop-book-preserved
loop-book-preserved g c = record {
  place = ap (λ (n : ℕ). n + 1) c.loop-book.invariant.place;
  so = λ base. places-on base c.args.books.now c.loop-book.book-index c.loop-book.place
      c.update_count.result c.book-item.result c.loop-book.shards.items
      c.push_place.new.shards.items (update_places base 0 c.args.books.now)
      c.loop-book-test.true c.book-item.is (c.update_count.ensures base) c.in_ok-push_place.ensures
      (c.loop-book.invariant.so base);
}

pub returns : goal.returns
returns g c = λ base. places-end base c.args.books.now c.loop-book.book-index c.loop-book.place
    c.loop-book.shards.items (update_places base 0 c.args.books.now) c.loop-book-test.false
    (c.loop-book.invariant.so base)
