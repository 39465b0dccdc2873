use Rattle.std.proofs.Common.{◌≡◌, ◌-◌, length}
use Rattle.journal_sides.specs.Formats.{IsReplaying}
use Rattle.journal_sides.proofs.BatchLemmas.{HasRead}
use Rattle.journal_sides.proofs.walks.read_batch.Given as goal

abbrev pub invariant-loop-at : goal.invariant-loop-at
invariant-loop-at g l =
    let r = g.R.Replay in
    HasRead l.format (r.state l.fn.replay) (r.state l.replay) l.octets l.at l.count
    × IsReplaying l.format r.replaying r.replaying_first l.replay
    × (r.lasting l.replay ≡ r.lasting l.fn.replay)

abbrev pub decreases-loop-at : goal.decreases-loop-at
decreases-loop-at g l = length l.octets - l.at
