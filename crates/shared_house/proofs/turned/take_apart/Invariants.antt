use Rattle.std.proofs.Common.{◌≡◌, ◌≤◌, ◌+◌, length, vec_capacity}
use Rattle.shared_house.proofs.TurnedLemmas.{AreApartFrom}
use Rattle.shared_house.proofs.turned.take_apart.Given as goal

abbrev pub invariant-loop : goal.invariant-loop
invariant-loop g l =
    let d = g.D.LeaseDisk in
    record {
      so : AreApartFrom d.tells d.moment d.left_since d.may_leave d.faults l.fn.made.turns.items l.turns.items
          l.passes.items l.fn.books.items l.books.items;
      left : length l.turns.items + l.counter ≡ length l.fn.made.turns.items;
      room : length l.turns.items + length l.books.items ≤ vec_capacity l.books;
    }
