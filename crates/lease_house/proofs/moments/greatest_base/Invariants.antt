use Rattle.std.proofs.Common.{◌≡◌, max, map, drop}
use Rattle.std.specs.Prelude.{fold}
use Rattle.shard_book.specs.Books.{BookView}
use Rattle.lease_histories.specs.HouseHistories.{greatest}
use Rattle.lease_house.proofs.moments.greatest_base.Given as goal

abbrev pub invariant-loop-book : goal.invariant-loop-book
invariant-loop-book g l =
    fold max l.base (map (λ (b : BookView g.row.D.Denot). b.state.base) (drop l.book-index l.books))
    ≡ greatest (map (λ (b : BookView g.row.D.Denot). b.state.base) l.books)
