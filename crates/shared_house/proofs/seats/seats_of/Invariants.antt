use Rattle.std.proofs.Common.{◌≡◌, ◌≤◌, ◌+◌, length, vec_capacity}
use Rattle.shared_house.proofs.SeatLemmas.{AreSplitOff}
use Rattle.shared_house.proofs.seats.seats_of.Given as goal

abbrev pub invariant-loop : goal.invariant-loop
invariant-loop l = record {
  so : AreSplitOff l.fn.first l.seats.items l.last;
  count : length l.seats.items + 1 ≡ l.counter;
  few : l.counter ≤ l.count;
  room : l.count ≤ vec_capacity l.seats;
}
