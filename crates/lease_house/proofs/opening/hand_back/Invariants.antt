use Rattle.std.proofs.Common.{◌≡◌, ◌≤◌, ◌+◌, ◌++◌, length, vec_capacity}
use Rattle.lease_house.proofs.OpenedBooks.{pairs_of}
use Rattle.lease_house.proofs.opening.hand_back.Given as goal

abbrev pub invariant-loop-book : goal.invariant-loop-book
invariant-loop-book g l = record {
  pairs : pairs_of l.books.items ++ l.pairs.items ≡ pairs_of l.fn.books.items ++ l.fn.pairs.items;
  room : length l.books.items + length l.pairs.items ≤ vec_capacity l.pairs;
}

abbrev pub decreases-loop-book : goal.decreases-loop-book
decreases-loop-book g l = length l.books.items
