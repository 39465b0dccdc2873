use Rattle.std.proofs.Common.{arith}
use Rattle.request_workers.proofs.SeatLemmas.{seats_added}
use Rattle.request_workers.proofs.seats.+add_seats.Goals as goal

pub returns : goal.returns
returns t c =
    seats_added c.add_seats.result c.args.config.now c.args.shard c.args.count c.args.seats.now.items c.push_reserved.new.self.items c.add_seats.new.seats.items
    c.in_ok-new.field-0 c.in_ok-new.ensures c.push_reserved.ensures.items (omega (arith, c.if-count-eq0.false)) c.add_seats.ensures
