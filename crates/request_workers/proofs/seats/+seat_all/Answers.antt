use Rattle.std.proofs.Common.{◌≡◌, false, length, refl, rules}
use Rattle.request_workers.proofs.SeatLemmas.{empty_of, seats_more, seats_none}
use Rattle.request_workers.proofs.seats.+seat_all.Goals as goal

pub returns-then-is_empty-clause-seats : goal.returns-then-is_empty-clause-seats
returns-then-is_empty-clause-seats g t c =
    let none : length c.args.passes.now.items ≡ 0 = search rules in
    seats_none _ _ _ _ _ _ (empty_of c.args.passes.now.items none)

pub returns-clause-seats : goal.returns-clause-seats
returns-clause-seats g t c =
    seats_more _ _ _ _ _ _ _ c.take_first-seat.result c.new.result
    (record { putter = c.take_first-seat.result.putter; row = c.new-2.result; unparker = c.take_first-seat.result.unparker; waits = false }) _ _ _ _ _ _ _ _ _
    c.requires.passes c.take_first-pass.ensures.items c.requires.seats c.take_first-seat.ensures.items
    c.new.ensures.1 c.new.ensures.2 c.new.ensures.3 c.new.ensures.4 refl c.new-2.ensures refl
    c.push_reserved.ensures.items c.push_reserved-2.ensures.items c.push_reserved-3.ensures.items c.seat_all.ensures.seats
