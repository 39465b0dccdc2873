use Rattle.std.proofs.Common.{◌≡◌, ◌+◌, ◌*◌, ◌≤◌, ◌<◌, ap, ◌∙◌, sym, arith}
use Rattle.ordered_index.specs.declared.slots.TheConstants.{BLOCKS, MOST_SLOTS}
use Rattle.ordered_index.specs.Ended.{has_ended}
use Rattle.ordered_index.specs.Slots.{held_below}
use Rattle.ordered_index.proofs.SlotCounts.{held-few}
use Rattle.ordered_index.proofs.DueSlots.{held-all, held-first, held-rest, held-skipped}
use Rattle.ordered_index.proofs.due.count_ended.Goals as goal

pub loop-from-init : goal.loop-from-init
loop-from-init g c = record { counted = held-first (has_ended g.L.Expires.expiry c.args.m) c.args.slots.now; within = omega arith }

pub returns-in_default : goal.returns-in_default
returns-in_default g c =
    let l = c.loop-from in
    l.invariant.counted ∙ sym (held-rest g.L.Expires.expiry c.args.slots.now c.args.leasts.now c.requires c.args.m l.from l.invariant.within c.in_default.ensures.none)

pub ended_in-count-requires : goal.ended_in-count-requires
ended_in-count-requires g c = let within = c.in-Some.ensures.within in let all = c.requires.all in omega (arith, within, all)

pub overflow_add-count : goal.overflow_add-count
overflow_add-count g c =
    let l = c.loop-from in
    let few = held-few (has_ended g.L.Expires.expiry c.args.m) c.args.slots.now (8 * l.from) in
    let counted = l.invariant.counted in let within = l.invariant.within in let more = c.ended_in-count.ensures.few in
    omega (arith, few, counted, within, more)

pub loop-from-preserved : goal.loop-from-preserved
loop-from-preserved g c =
    let l = c.loop-from in
    record {
      counted = held-skipped g.L.Expires.expiry c.args.slots.now c.args.leasts.now c.requires c.args.m l.from c.in-Some.block c.in-Some.ensures.within c.in-Some.ensures.found
          l.count c.ended_in-count.result l.invariant.counted c.ended_in-count.ensures.ended;
      within = (let within = c.in-Some.ensures.within in let all = c.requires.all in omega (arith, within, all));
    }

pub returns : goal.returns
returns g c =
    let l = c.loop-from in
    held-all (has_ended g.L.Expires.expiry c.args.m) c.args.slots.now l.from l.count l.invariant.counted (let within = l.invariant.within in let done = c.loop-from-test.false in omega (arith, within, done))
