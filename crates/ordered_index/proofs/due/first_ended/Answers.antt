use Rattle.std.proofs.Common.{ℕ, ◌≤◌, ◌<◌, arith}
use Rattle.expiry_wheel.specs.declared.TheConstants.{NEVER}
use Rattle.ordered_index.proofs.DueSlots.{all_none, none_due, sooner_number, sooner_none}
use Rattle.ordered_index.proofs.due.first_ended.Goals as goal

pub returns-then-m-eq-NEVER-clause-none : goal.returns-then-m-eq-NEVER-clause-none
returns-then-m-eq-NEVER-clause-none g c = all_none g.L.Expires.expiry c.args.slots.now c.args.m c.ended_among.result c.ended_among.ensures.none

pub returns-in_default-clause-none : goal.returns-in_default-clause-none
returns-in_default-clause-none g c = none_due g.L.Expires.expiry c.args.slots.now c.args.leasts.now c.requires c.args.m c.in_default.ensures.none

pub returns-clause-number : goal.returns-clause-number
returns-clause-number g c =
    sooner_number g.L.Expires.expiry c.args.slots.now c.args.leasts.now c.args.m c.in-Some.due.block c.in-Some.due.least c.in-Some.ensures.next c.in-Some.ensures.least
    c.ended_among-2.result c.ended_among-2.ensures.number

pub returns-clause-none : goal.returns-clause-none
returns-clause-none g c =
    let some : c.args.m < NEVER = (let fits = c.ranges.m.fits in let other = c.if-m-eq-NEVER.false in omega (arith, fits, other)) in
    sooner_none g.L.Expires.expiry c.args.slots.now c.args.leasts.now c.requires c.args.m some c.in-Some.due.block c.in-Some.due.least c.in-Some.ensures.within c.in-Some.ensures.next c.in-Some.ensures.least
    c.ended_among-2.result c.ended_among-2.ensures.none
