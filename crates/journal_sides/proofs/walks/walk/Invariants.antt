use Rattle.std.proofs.Common.{◌≡◌, ◌-◌}
use Rattle.journal_sides.specs.Formats.{IsReplaying}
use Rattle.journal_sides.proofs.SideWalks.{IsWalking}
use Rattle.journal_sides.proofs.walks.walk.Given as goal

abbrev pub invariant-loop-place : goal.invariant-loop-place
invariant-loop-place g l =
    let d = g.D.LeaseDisk in
    let r = g.R.Replay in
    IsWalking d.tells d.seen d.may_leave d.moment d.left_since d.faults (IsReplaying l.format r.replaying r.replaying_first l.replay
    × (r.lasting l.replay ≡ r.lasting l.fn.replay)) l.format l.fn.disk l.disk (r.state l.replay) l.size l.place l.buffer

abbrev pub decreases-loop-place : goal.decreases-loop-place
decreases-loop-place g l = l.size - l.place
