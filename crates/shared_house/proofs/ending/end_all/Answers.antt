use Rattle.std.specs.List.{slice_get}
use Rattle.std.proofs.Common.{◌≡◌, ◌∙◌, ℕ, ◌++◌, [], ◌∷◌, Some, length, arith, rules, ap, sym}
use Rattle.std.proofs.Common.{subst}
use Rattle.std.proofs.lemmas.List.{length-append}
use Rattle.lease_house.specs.BookCalls.{ChangesAt}
use Rattle.turned_shards.specs.Turnings.{EndsOne}
use Rattle.shared_house.proofs.EndLemmas.{all-ended, all-met, next-lane, none-ended, none-met}
use Rattle.shared_house.proofs.EndLemmas.{one-ended, one-met, still-home}
use Rattle.shared_house.proofs.TurnedLemmas.{none-left, popped}
use Rattle.shared_house.proofs.ending.end_all.Goals as goal

pub loop-init : goal.loop-init
loop-init g c =
    let d = g.D.LeaseDisk in
    record {
      so = none-ended d.tells d.seen d.moment d.left_since d.may_leave d.faults c.args.turns.items c.args.passes.now.items
          c.args.spare.items;
      met = none-met d.tells d.seen d.moment d.left_since d.may_leave d.faults c.args.turns.items
          c.args.passes.now.items c.args.lanes.now;
      left = omega arith;
      room = c.requires.room;
    }

pub end_at-pair-requires-clause-home : goal.end_at-pair-requires-clause-home
end_at-pair-requires-clause-home g c = λ pass has.
    let d = g.D.LeaseDisk in
    let t_is : c.pop.result ≡ Some c.unwrap-turn.result = search rules in
    let fewer = c.pop.new.self.items in
    let place_is : c.len-place.result ≡ length fewer = search rules in
    still-home d.tells d.seen d.moment d.left_since d.may_leave d.faults c.args.turns.items c.loop.turns.items fewer
    c.args.passes.now.items c.loop.passes.items c.args.spare.items c.loop.pairs.items
    c.unwrap-turn.result pass
    (popped c.loop.turns.items fewer c.pop.result c.unwrap-turn.result c.pop.ensures.items t_is)
    c.requires.home c.loop.invariant.so
    (ap (slice_get c.loop.passes.items) (sym place_is) ∙ has)

pub end_at-pair-requires-clause-lanes : goal.end_at-pair-requires-clause-lanes
end_at-pair-requires-clause-lanes g c =
    let t_is : c.pop.result ≡ Some c.unwrap-turn.result = search rules in
    let fewer = c.pop.new.self.items in
    let place_is : c.len-place.result ≡ length fewer = search rules in
    let longer : length c.loop.turns.items ≡ length (fewer ++ c.unwrap-turn.result ∷ []) =
    ap length (popped c.loop.turns.items fewer c.pop.result c.unwrap-turn.result
    c.pop.ensures.items t_is) in
    let one = length-append fewer (c.unwrap-turn.result ∷ []) in
    let left = c.loop.invariant.left in
    let enough = c.requires.lanes.enough in
    omega (arith, place_is, longer, one, left, enough)

pub end_at-pair-requires-clause-index : goal.end_at-pair-requires-clause-index
end_at-pair-requires-clause-index g c = λ lane found.
    let d = g.D.LeaseDisk in
    let t_is : c.pop.result ≡ Some c.unwrap-turn.result = search rules in
    let fewer = c.pop.new.self.items in
    let place_is : c.len-place.result ≡ length fewer = search rules in
    next-lane d.tells d.seen d.moment d.left_since d.may_leave d.faults c.args.turns.items c.loop.turns.items fewer
    c.args.passes.now.items c.loop.passes.items c.args.lanes.now c.args.spare.items c.loop.pairs.items
    c.unwrap-turn.result lane
    (popped c.loop.turns.items fewer c.pop.result c.unwrap-turn.result c.pop.ensures.items t_is)
    c.requires.lanes c.loop.invariant.so
    (ap (slice_get c.args.lanes.now) (sym place_is) ∙ found)

pub loop-preserved : goal.loop-preserved
loop-preserved g c =
    let d = g.D.LeaseDisk in
    let t_is : c.pop.result ≡ Some c.unwrap-turn.result = search rules in
    let fewer = c.pop.new.self.items in
    let place_is : c.len-place.result ≡ length fewer = search rules in
    let left_is = popped c.loop.turns.items fewer c.pop.result c.unwrap-turn.result
    c.pop.ensures.items t_is in
    let changes =
    subst (λ (n : ℕ). ChangesAt n c.loop.passes.items c.end_at-pair.new.passes.items
    (λ p q. EndsOne d.tells d.seen d.moment d.left_since d.may_leave d.faults c.unwrap-turn.result.key p q
    c.end_at-pair.result)) place_is c.end_at-pair.ensures.ended in
    let longer : length c.loop.turns.items ≡ length (fewer ++ c.unwrap-turn.result ∷ []) =
    ap length left_is in
    let one = length-append fewer (c.unwrap-turn.result ∷ []) in
    let put = ap length c.put_first.ensures.items in
    record {
      so = one-ended d.tells d.seen d.moment d.left_since d.may_leave d.faults c.args.turns.items c.loop.turns.items fewer
          c.args.passes.now.items c.loop.passes.items c.end_at-pair.new.passes.items
          c.args.spare.items c.loop.pairs.items c.put_first.new.pairs.items
          c.unwrap-turn.result c.end_at-pair.result left_is c.loop.invariant.so changes
          c.put_first.ensures.items;
      met = one-met d.tells d.seen d.moment d.left_since d.may_leave d.faults c.args.turns.items c.loop.turns.items fewer
          c.args.passes.now.items c.loop.passes.items c.end_at-pair.new.passes.items
          c.args.lanes.now c.args.spare.items c.loop.pairs.items c.unwrap-turn.result _ left_is
          c.loop.invariant.so c.loop.invariant.met changes
          (λ pass lane here found. c.end_at-pair.ensures.lane pass lane
          (ap (slice_get c.end_at-pair.new.passes.items) place_is ∙ here)
          (ap (slice_get c.args.lanes.now) place_is ∙ found));
      left = let a = c.loop.invariant.left in omega (arith, a, longer, one);
      room = let a = c.loop.invariant.room in let b = c.put_first.ensures.capacity in
          omega (arith, a, b, longer, one, put);
    }

pub returns-clause-lanes : goal.returns-clause-lanes
returns-clause-lanes g c =
    let d = g.D.LeaseDisk in
    let none : length c.loop.turns.items ≡ 0 =
    (let a = c.loop.invariant.left in let b = c.loop-test.false in
    let e : c.len-end.result ≡ length c.args.turns.items = search rules in
    omega (arith, a, b, e)) in
    all-met d.tells d.seen d.moment d.left_since d.may_leave d.faults c.args.turns.items c.loop.turns.items
    c.loop.passes.items c.args.lanes.now (none-left c.loop.turns.items none) c.loop.invariant.met

pub returns-clause-ended : goal.returns-clause-ended
returns-clause-ended g c =
    let d = g.D.LeaseDisk in
    let none : length c.loop.turns.items ≡ 0 =
    (let a = c.loop.invariant.left in let b = c.loop-test.false in
    let e : c.len-end.result ≡ length c.args.turns.items = search rules in
    omega (arith, a, b, e)) in
    all-ended d.tells d.seen d.moment d.left_since d.may_leave d.faults c.args.turns.items c.loop.turns.items
    c.args.passes.now.items c.loop.passes.items c.args.spare.items c.loop.pairs.items
    (none-left c.loop.turns.items none) c.loop.invariant.so
