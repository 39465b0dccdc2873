use Rattle.std.proofs.Common.{◌≡◌, ◌≤◌, ◌+◌, length, vec_capacity}
use Rattle.shared_house.specs.Turned.{AllMayBegin, HasRoomFor}
use Rattle.shared_house.proofs.TurnedLemmas.{AreTurnedTo}
use Rattle.shared_house.proofs.turned.turn_all.Given as goal

abbrev pub invariant-loop-place : goal.invariant-loop-place
invariant-loop-place g l =
    let d = g.D.LeaseDisk in
    record {
      so : AreTurnedTo l.config l.fn.books.items l.books.items l.place l.made l.fn.seats.items
          l.seats.items;
      may : AllMayBegin d.tells d.seen d.may_leave l.config l.place l.books.items;
      left : length l.books.items + l.place ≡ length l.fn.books.items;
      seats : length l.seats.items ≡ length l.books.items;
      room : HasRoomFor (length l.books.items) l.made;
      capacity : length l.fn.books.items ≤ vec_capacity l.books;
    }
