use Rattle.std.proofs.Common.{◌≡◌, ◌<◌, ◌≤◌, ◌/◌, ℕ, List, slice_set, sym, ap, ◌∙◌, subst, arith}
use Rattle.expiry_wheel.specs.declared.TheConstants.{NEVER}
use Rattle.expiry_wheel.specs.Moments.{kept_at}
use Rattle.expiry_wheel.specs.Blocks.{AreLeasts}
use Rattle.ordered_index.specs.declared.slots.TheConstants.{BLOCKS}
use Rattle.ordered_index.specs.Slots.{moment_at}
use Rattle.ordered_index.proofs.DueSlots.{told-anew, told-lower, told-stays}
use Rattle.ordered_index.proofs.due.tell_least.Goals as goal

pub least_of-least-requires : goal.least_of-least-requires
least_of-least-requires g c = let low = c.requires.slot in let all = c.requires.all in omega (arith, low, all)

pub set_uncounted-requires : goal.set_uncounted-requires
set_uncounted-requires g c = let low = c.requires.slot in let all = c.requires.all in omega (arith, low, all)

pub least_of-anew-requires : goal.least_of-anew-requires
least_of-anew-requires g c = let low = c.requires.slot in omega (arith, low)

pub set_uncounted-requires-2 : goal.set_uncounted-requires-2
set_uncounted-requires-2 g c = let low = c.requires.slot in let all = c.requires.all in omega (arith, low, all)

pub returns-then-moment-least : goal.returns-then-moment-least
returns-then-moment-least g c = λ before are was others.
    told-lower before c.args.leasts.now are (moment_at g.L.Expires.expiry c.args.slots.now) c.args.slot c.requires.slot others
    c.moment_at-moment.result c.moment_at-moment.ensures.moment c.moment_at-moment.ensures.low c.least_of-least.result c.least_of-least.ensures c.if-moment-least.true
    c.set_uncounted.new.self c.set_uncounted.ensures

pub returns-then-was-least : goal.returns-then-was-least
returns-then-was-least g c = λ before are was others.
    told-stays before c.args.leasts.now are (moment_at g.L.Expires.expiry c.args.slots.now) c.args.slot c.requires.slot others
    c.moment_at-moment.result c.moment_at-moment.ensures.moment c.moment_at-moment.ensures.low c.least_of-least.result c.least_of-least.ensures c.if-moment-least.false
    c.args.was was (λ same. omega (arith, same, c.if-was-least.true))

pub returns : goal.returns
returns g c = λ before are was others.
    told-anew before c.args.leasts.now are (moment_at g.L.Expires.expiry c.args.slots.now) c.args.slot c.requires.slot others
    c.least_of-anew.result c.least_of-anew.ensures c.set_uncounted-2.new.self c.set_uncounted-2.ensures
