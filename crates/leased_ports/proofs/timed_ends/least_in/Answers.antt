use Rattle.std.proofs.Common.{◌≡◌, suc, ◌+◌, ◌*◌, min, ap, ◌∙◌, arith}
use Rattle.expiry_wheel.specs.Blocks.{least_at}
use Rattle.expiry_wheel.proofs.BlockMoments.{least_none, least_one_more}
use Rattle.leased_ports.specs.Frees.{free_at}
use Rattle.leased_ports.proofs.timed_ends.least_in.Goals as goal

pub loop-i-init : goal.loop-i-init
loop-i-init c = least_none (free_at c.args.ends.now) (8 * c.args.block)

pub loop-i-preserved : goal.loop-i-preserved
loop-i-preserved c =
    let l = c.loop-i in
    let one_more : suc l.i ≡ l.i + 1 = omega arith in
    c.min-least.ensures ∙ ap (min l.least) c.free_beside.ensures ∙ least_one_more (free_at c.args.ends.now) (8 * c.args.block) l.i l.least l.invariant
    ∙ ap (least_at (free_at c.args.ends.now) (8 * c.args.block)) one_more
