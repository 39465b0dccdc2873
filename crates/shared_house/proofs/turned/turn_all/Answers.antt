use Rattle.std.proofs.Common.{◌≡◌, ◌∙◌, ℕ, ◌+◌, ◌<◌, length, arith, rules, ap, sym, subst}
use Rattle.std.proofs.lemmas.List.{length-append}
use Rattle.lease_house.proofs.OpenedBooks.{first_removed}
use Rattle.shared_house.specs.declared.turned.Turned.{Turned}
use Rattle.shared_house.specs.Turned.{AllMayBegin, AreUnshared, HasRoomFor, TakesApart}
use Rattle.shared_house.proofs.BeginLemmas.{IsKeyed, begin-keyed, begin-unshared, zip-length}
use Rattle.shared_house.proofs.TurnedLemmas.{IsOut, none-turned-to, one-turned, stopped-back}
use Rattle.shared_house.proofs.TurnedLemmas.{untouched-back}
use Rattle.shared_house.proofs.turned.turn_all.Goals as goal

pub returns-in-Err-clause-back : goal.returns-in-Err-clause-back
returns-in-Err-clause-back g c =
    let d = g.D.LeaseDisk in
    untouched-back d.tells d.moment d.left_since d.may_leave d.faults c.args.books.items c.args.spare.items
    c.hand_back.result.items c.hand_back.ensures

pub loop-place-init : goal.loop-place-init
loop-place-init g c =
    let count_is : c.len-count.result ≡ length c.args.books.items = search rules in
    record {
      so = none-turned-to c.args.config.now c.args.books.items c.in-Ok.made c.args.seats.items
          c.in-Ok.ensures.turns c.in-Ok.ensures.passes c.in-Ok.ensures.lanes;
      may = c.requires.books;
      left = omega arith;
      seats = c.requires.seats;
      room = subst (λ (n : ℕ). HasRoomFor n c.in-Ok.made) count_is c.in-Ok.ensures.room;
      capacity = search rules;
    }

pub take_apart-requires-clause-unshared : goal.take_apart-requires-clause-unshared
take_apart-requires-clause-unshared g c =
    let so = c.loop-place.invariant.so in
    let made = c.loop-place.made in
    subst (λ (m : Turned g.row.D.Denot). AreUnshared m.turns.items m.passes.items)
    (sym c.in-Err-next.ensures.same)
    (begin-unshared c.args.config.now 0 so.done made.turns.items made.passes.items made.lanes.items
    so.begun)

pub take_apart-requires-clause-room : goal.take_apart-requires-clause-room
take_apart-requires-clause-room g c =
    let so = c.loop-place.invariant.so in
    let made = c.loop-place.made in
    let same = ap (λ (m : Turned g.row.D.Denot). length m.turns.items) c.in-Err-next.ensures.same in
    let many = zip-length IsKeyed made.turns.items so.done
    (begin-keyed c.args.config.now 0 so.done made.turns.items made.passes.items made.lanes.items
    so.begun) in
    let done = so.count in
    let left = c.loop-place.invariant.left in
    let capacity = c.loop-place.invariant.capacity in
    let put = ap length c.put_book.ensures.items in
    let put_capacity = c.put_book.ensures.capacity in
    let removed = c.remove-book.ensures.len in
    let removed_capacity = c.remove-book.ensures.capacity in
    omega (arith, same, many, done, left, capacity, put, put_capacity, removed, removed_capacity)

pub hand_back-requires-in-Err-next : goal.hand_back-requires-in-Err-next
hand_back-requires-in-Err-next g c =
    let d = g.D.LeaseDisk in
    let so = c.loop-place.invariant.so in
    let made = c.loop-place.made in
    let takes = c.take_apart.ensures in
    let same = ap (λ (m : Turned g.row.D.Denot). length m.turns.items) c.in-Err-next.ensures.same in
    let many = zip-length IsKeyed made.turns.items so.done
    (begin-keyed c.args.config.now 0 so.done made.turns.items made.passes.items made.lanes.items
    so.begun) in
    let out = zip-length (IsOut d.tells d.moment d.left_since d.may_leave d.faults)
    c.turn_next-next.new.made.turns.items takes.out takes.each in
    let all = ap length takes.new_is ∙ length-append takes.out c.put_book.new.books.items in
    let done = so.count in
    let left = c.loop-place.invariant.left in
    let put = ap length c.put_book.ensures.items in
    let removed = c.remove-book.ensures.len in
    let room = c.requires.room in
    omega (arith, same, many, out, all, done, left, put, removed, room)

pub returns-in-Err-next-clause-back : goal.returns-in-Err-next-clause-back
returns-in-Err-next-clause-back g c =
    let d = g.D.LeaseDisk in
    let some : 0 < length c.loop-place.books.items = search rules in
    let rest_is = first_removed c.loop-place.books.items c.remove-book.new.self.items
    c.remove-book.result some c.remove-book.ensures.value c.remove-book.ensures.items in
    let takes =
    subst (λ (m : Turned g.row.D.Denot). TakesApart d.tells d.moment d.left_since d.may_leave d.faults m.turns.items
    c.put_book.new.books.items c.take_apart.new.books.items)
    c.in-Err-next.ensures.same c.take_apart.ensures in
    stopped-back d.tells d.moment d.left_since d.may_leave d.faults c.args.config.now c.args.books.items
    c.loop-place.books.items c.remove-book.new.self.items c.put_book.new.books.items
    c.take_apart.new.books.items c.loop-place.place c.loop-place.made
    c.args.seats.items c.loop-place.seats.items c.args.spare.items
    c.hand_back-in-Err-next.result.items c.remove-book.result c.in-Err-next.refused.book rest_is
    c.in-Err-next.ensures.back c.put_book.ensures.items c.loop-place.invariant.so takes
    c.hand_back-in-Err-next.ensures

pub loop-place-preserved : goal.loop-place-preserved
loop-place-preserved g c =
    let d = g.D.LeaseDisk in
    let inv = c.loop-place.invariant in
    let some : 0 < length c.loop-place.books.items = search rules in
    let seats_same = inv.seats in
    let some_seat : 0 < length c.loop-place.seats.items = omega (arith, some, seats_same) in
    let rest_is = first_removed c.loop-place.books.items c.remove-book.new.self.items
    c.remove-book.result some c.remove-book.ensures.value c.remove-book.ensures.items in
    let seats_is = first_removed c.loop-place.seats.items c.remove-seat.new.self.items
    c.remove-seat.result some_seat c.remove-seat.ensures.value c.remove-seat.ensures.items in
    let fewer : length c.loop-place.books.items ≡ length c.remove-book.new.self.items + 1 =
    (let e = ap length rest_is in omega (arith, e)) in
    let fewer_seats : length c.loop-place.seats.items ≡ length c.remove-seat.new.self.items + 1 =
    (let e = ap length seats_is in omega (arith, e)) in
    let may = subst (AllMayBegin d.tells d.seen d.may_leave c.args.config.now c.loop-place.place)
    rest_is inv.may in
    record {
      so = one-turned c.args.config.now c.args.books.items c.loop-place.books.items
          c.remove-book.new.self.items c.loop-place.place c.loop-place.made
          c.turn_next-next.new.made c.args.seats.items c.loop-place.seats.items
          c.remove-seat.new.self.items
          c.remove-book.result c.remove-seat.result rest_is seats_is inv.so
          c.in_default.ensures.added;
      may = may.1;
      left = let a = inv.left in omega (arith, a, fewer);
      seats = omega (arith, seats_same, fewer, fewer_seats);
      room = c.in_default.ensures.room (length c.remove-book.new.self.items)
          (subst (λ (n : ℕ). HasRoomFor n c.loop-place.made) fewer inv.room);
      capacity = let a = inv.capacity in let b = c.remove-book.ensures.capacity in
          omega (arith, a, b);
    }
