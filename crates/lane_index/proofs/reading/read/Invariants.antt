use Rattle.std.proofs.Common.{◌≡◌}
use Rattle.left_right.specs.Sides.{view}
use Rattle.lane_index.specs.Shown.{NamesIndex}
use Rattle.lane_index.proofs.reading.read.Given as goal

abbrev pub invariant-loop : goal.invariant-loop
invariant-loop g l = (goal.iterator-loop g).can_next l.iterator' × (goal.iterator-loop g).is_finite l.iterator'
    × NamesIndex l.initial.seen.book (view l.reader.place)
    × (l.seen ≡ l.initial.seen) × (l.count ≡ l.initial.count)
