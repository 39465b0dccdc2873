use Rattle.std.proofs.Common.{ℕ, ◌-◌, List, length, take, drop, ◌∙◌, subst}
use Rattle.journal_sides.specs.declared.walks.Turn.{Turn}
use Rattle.journal_sides.specs.Walks.{IsFramed, TurnMeans}
use Rattle.journal_sides.proofs.SideWalks.{from_place, piece_more}
use Rattle.journal_sides.proofs.walks.walk_piece.Goals as goal

pub loop-at-preserved : goal.loop-at-preserved
loop-at-preserved g c =
    let s = g.R.Replay.state c.loop-at.replay in
    let now = g.R.Replay.state c.walk_frame.new.replay in
    let slice = take (length c.args.octets.now - c.loop-at.at) (drop c.loop-at.at c.args.octets.now) in
    let means = subst (λ (t : Turn). TurnMeans c.args.format s now slice t) c.in-Framed.is c.in_ok-count.ensures.means in
    piece_more c.args.format _ s now c.args.octets.now c.loop-at.at c.in-Framed.count _ _ c.loop-at.invariant
    (subst (λ (l : List ℕ). IsFramed c.args.format s now l c.in-Framed.count) (from_place c.args.octets.now c.loop-at.at) means)
    (c.in_ok-count.ensures.ready, c.walk_frame.ensures.lasting ∙ c.loop-at.invariant.is_ready.1)
