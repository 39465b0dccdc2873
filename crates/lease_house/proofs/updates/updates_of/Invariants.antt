use Rattle.std.proofs.Common.{◌≡◌, take}
use Rattle.std.specs.Prelude.{flat_map}
use Rattle.lease_house.specs.SoloOpenings.{book_updates}
use Rattle.lease_house.proofs.updates.updates_of.Given as goal

abbrev pub invariant-loop-book : goal.invariant-loop-book
invariant-loop-book g l = l.updates.items ≡ flat_map (book_updates l.base) (take l.book-index l.books)
