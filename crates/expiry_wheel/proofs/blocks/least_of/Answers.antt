use Rattle.std.proofs.Common.{◌≡◌, suc, ◌+◌, ◌*◌, min, ap, ◌∙◌, arith}
use Rattle.expiry_wheel.specs.Moments.{kept_at}
use Rattle.expiry_wheel.specs.Blocks.{least_at}
use Rattle.expiry_wheel.proofs.BlockMoments.{least_none, least_one_more}
use Rattle.expiry_wheel.proofs.blocks.least_of.Goals as goal

pub loop-i-init : goal.loop-i-init
loop-i-init g c = record { least = least_none (kept_at c.args.moments.now) (8 * c.args.block); cost = omega arith }

pub loop-i-preserved : goal.loop-i-preserved
loop-i-preserved g c =
    let l = c.loop-i in
    let one_more : suc l.i ≡ l.i + 1 = omega arith in
    record {
      least = c.min-least.ensures ∙ ap (min l.least) c.look.ensures.value ∙ least_one_more (kept_at c.args.moments.now) (8 * c.args.block) l.i l.least l.invariant.least
          ∙ ap (least_at (kept_at c.args.moments.now) (8 * c.args.block)) one_more;
      cost = omega (arith, l.invariant.cost, c.look.ensures.step);
    }
