use Rattle.std.proofs.Common.{◌≡◌, ◌++◌, ℕ, drop}
use Rattle.shared_house.specs.Findings.{update_places}
use Rattle.shared_house.proofs.findings.update_places.Given as goal

abbrev pub invariant-loop-book : goal.invariant-loop-book
invariant-loop-book g l = record {
  place : l.place ≡ l.book-index;
  so : (base : ℕ) → l.shards.items ++ update_places base l.place (drop l.book-index l.books)
      ≡ update_places base 0 l.books;
}
