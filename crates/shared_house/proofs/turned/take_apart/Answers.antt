use Rattle.std.proofs.Common.{◌≡◌, ◌<◌, ◌++◌, [], ◌∷◌, Some, length, arith, rules, ap}
use Rattle.std.proofs.lemmas.List.{length-append}
use Rattle.turn_lock.specs.Passes.{TurnName, new_pass}
use Rattle.turned_shards.specs.declared.openings.Opening.{Opening}
use Rattle.turned_shards.specs.declared.passes.HousePass.{HousePass}
use Rattle.shared_house.proofs.BeginLemmas.{zip-length}
use Rattle.shared_house.proofs.TurnedLemmas.{all-apart, last-unshared, none-left, one-apart, popped}
use Rattle.shared_house.proofs.turned.take_apart.Goals as goal

pub unwrap-history-requires : goal.unwrap-history-requires
unwrap-history-requires g c =
    let same : length c.loop.turns.items ≡ length c.loop.passes.items =
    zip-length (λ (t : TurnName (Opening g.row.D.Denot))
    (p : HousePass g.row.D.Denot). p.history
    ≡ new_pass t.id 18446744073709551615 [] []) c.loop.turns.items c.loop.passes.items
    c.loop.invariant.so.unshared in
    let some : 0 < length c.loop.passes.items =
    (let a = c.loop.invariant.left in let b = c.loop-test.true in
    let e : c.len-end.result ≡ length c.args.made.turns.items = search rules in
    omega (arith, same, a, b, e)) in
    search rules

pub untake-requires : goal.untake-requires
untake-requires g c =
    let d = g.D.LeaseDisk in
    let t_is : c.pop.result ≡ Some c.unwrap-turn.result = search rules in
    let p_is : c.pop-in-loop.result ≡ Some c.unwrap-history.result = search rules in
    record {
      pass = (last-unshared d.tells d.moment d.left_since d.may_leave d.faults c.loop.turns.items c.pop.new.self.items
          c.loop.passes.items c.pop-in-loop.new.self.items c.unwrap-turn.result
          c.unwrap-history.result
          (popped c.loop.turns.items c.pop.new.self.items c.pop.result c.unwrap-turn.result
          c.pop.ensures.items t_is)
          (popped c.loop.passes.items c.pop-in-loop.new.self.items c.pop-in-loop.result
          c.unwrap-history.result c.pop-in-loop.ensures.items p_is)
          c.loop.invariant.so.unshared).1;
    }

pub loop-preserved : goal.loop-preserved
loop-preserved g c =
    let d = g.D.LeaseDisk in
    let t_is : c.pop.result ≡ Some c.unwrap-turn.result = search rules in
    let p_is : c.pop-in-loop.result ≡ Some c.unwrap-history.result = search rules in
    let left_is = popped c.loop.turns.items c.pop.new.self.items c.pop.result c.unwrap-turn.result
    c.pop.ensures.items t_is in
    let passes_is = popped c.loop.passes.items c.pop-in-loop.new.self.items c.pop-in-loop.result
    c.unwrap-history.result c.pop-in-loop.ensures.items p_is in
    let longer : length c.loop.turns.items ≡ length
    (c.pop.new.self.items ++ c.unwrap-turn.result ∷ []) = ap length left_is in
    let one = length-append c.pop.new.self.items (c.unwrap-turn.result ∷ []) in
    let put = ap length c.put_book.ensures.items in
    record {
      so = one-apart d.tells d.moment d.left_since d.may_leave d.faults c.args.made.turns.items c.loop.turns.items
          c.pop.new.self.items c.loop.passes.items c.pop-in-loop.new.self.items
          c.args.books.now.items c.loop.books.items c.put_book.new.books.items
          c.unwrap-turn.result c.unwrap-history.result c.untake.result left_is passes_is
          c.loop.invariant.so c.untake.ensures c.put_book.ensures.items;
      left = let a = c.loop.invariant.left in omega (arith, a, longer, one);
      room = let a = c.loop.invariant.room in let b = c.put_book.ensures.capacity in
          omega (arith, a, b, longer, one, put);
    }

pub destroy_empty-requires-2 : goal.destroy_empty-requires-2
destroy_empty-requires-2 g c =
    let same : length c.loop.turns.items ≡ length c.loop.passes.items =
    zip-length (λ (t : TurnName (Opening g.row.D.Denot))
    (p : HousePass g.row.D.Denot). p.history
    ≡ new_pass t.id 18446744073709551615 [] []) c.loop.turns.items c.loop.passes.items
    c.loop.invariant.so.unshared in
    let none : length c.loop.passes.items ≡ 0 =
    (let a = c.loop.invariant.left in let b = c.loop-test.false in
    let e : c.len-end.result ≡ length c.args.made.turns.items = search rules in
    omega (arith, same, a, b, e)) in
    search rules

pub returns : goal.returns
returns g c =
    let d = g.D.LeaseDisk in
    let none : length c.loop.turns.items ≡ 0 =
    (let a = c.loop.invariant.left in let b = c.loop-test.false in
    let e : c.len-end.result ≡ length c.args.made.turns.items = search rules in
    omega (arith, a, b, e)) in
    all-apart d.tells d.moment d.left_since d.may_leave d.faults c.args.made.turns.items c.loop.turns.items
    c.loop.passes.items c.args.books.now.items c.loop.books.items
    (none-left c.loop.turns.items none) c.loop.invariant.so
