use Rattle.std.proofs.Common.{◌≡◌, ◌≤◌, ◌+◌, length, vec_capacity}
use Rattle.shared_house.proofs.EndLemmas.{AreEndedFrom, HaveMetFrom}
use Rattle.shared_house.proofs.ending.end_all.Given as goal

abbrev pub invariant-loop : goal.invariant-loop
invariant-loop g l =
    let d = g.D.LeaseDisk in
    record {
      so : AreEndedFrom d.tells d.seen d.moment d.left_since d.may_leave d.faults l.fn.turns.items l.turns.items
          l.fn.passes.items l.passes.items l.fn.spare.items l.pairs.items;
      met : HaveMetFrom d.tells d.seen d.moment d.left_since d.may_leave d.faults
          l.fn.turns.items l.turns.items l.passes.items l.fn.lanes;
      left : length l.turns.items + l.counter ≡ length l.fn.turns.items;
      room : length l.turns.items + length l.pairs.items ≤ vec_capacity l.pairs;
    }
