use Rattle.std.proofs.Common.{◌≡◌, suc, ◌+◌, ◌*◌, min, ap, ◌∙◌, arith}
use Rattle.expiry_wheel.specs.Blocks.{least_at}
use Rattle.expiry_wheel.proofs.BlockMoments.{least_none, least_one_more}
use Rattle.ordered_index.specs.Slots.{moment_at}
use Rattle.ordered_index.proofs.due.least_of.Goals as goal

pub loop-i-init : goal.loop-i-init
loop-i-init g c = least_none (moment_at g.L.Expires.expiry c.args.slots.now) (8 * c.args.block)

pub loop-i-preserved : goal.loop-i-preserved
loop-i-preserved g c =
    let l = c.loop-i in
    let one_more : suc l.i ≡ l.i + 1 = omega arith in
    c.min-least.ensures ∙ ap (min l.least) c.moment_at.ensures.moment
    ∙ least_one_more (moment_at g.L.Expires.expiry c.args.slots.now) (8 * c.args.block) l.i l.least l.invariant
    ∙ ap (least_at (moment_at g.L.Expires.expiry c.args.slots.now) (8 * c.args.block)) one_more
