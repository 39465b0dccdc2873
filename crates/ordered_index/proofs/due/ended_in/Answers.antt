use Rattle.std.proofs.Common.{◌≡◌, ◌+◌, ◌*◌, ◌≤◌, ap, arith}
use Rattle.ordered_index.specs.Ended.{has_ended}
use Rattle.ordered_index.specs.Slots.{held_below}
use Rattle.ordered_index.proofs.DueSlots.{held-start, held-turn, one_at_most}
use Rattle.ordered_index.proofs.due.ended_in.Goals as goal

pub loop-i-init : goal.loop-i-init
loop-i-init g c = record { held = held-start (has_ended g.L.Expires.expiry c.args.m) c.args.slots.now (8 * c.args.block); few = omega arith }

pub loop-i-preserved : goal.loop-i-preserved
loop-i-preserved g c =
    let l = c.loop-i in
    record {
      held = held-turn (has_ended g.L.Expires.expiry c.args.m) c.args.slots.now (8 * c.args.block) l.i l.count c.count_at-count.result l.invariant.held c.count_at-count.ensures;
      few = (let few = l.invariant.few in let one = one_at_most (has_ended g.L.Expires.expiry c.args.m) c.args.slots.now (8 * c.args.block + l.i) c.count_at-count.result c.count_at-count.ensures in omega (arith, few, one));
    }
