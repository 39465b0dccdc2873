use Rattle.std.proofs.Common.{◌-◌, ◌≤◌, length}
use Rattle.journal_sides.proofs.HiddenLaws.{HasFramedTo}
use Rattle.journal_sides.proofs.frames.put_open_frames.Given as goal

abbrev pub invariant-loop-at : goal.invariant-loop-at
invariant-loop-at l = record {
  within : l.at ≤ length l.texts;
  framed : HasFramedTo l.texts l.at l.fn.out.items l.out.items;
}

abbrev pub decreases-loop-at : goal.decreases-loop-at
decreases-loop-at l = length l.texts - l.at
