use Rattle.std.proofs.Common.{◌-◌, length}
use Rattle.journal_sides.proofs.FillLemmas.{HasFilled}
use Rattle.journal_sides.proofs.walks.fill.Given as goal

abbrev pub invariant-loop-filled : goal.invariant-loop-filled
invariant-loop-filled g l =
    let d = g.D.LeaseDisk in
    HasFilled d.tells d.seen d.may_leave d.moment d.left_since d.faults l.fn.disk l.disk l.place (length l.fn.piece) l.piece l.filled

abbrev pub decreases-loop-filled : goal.decreases-loop-filled
decreases-loop-filled g l = length l.piece - l.filled
