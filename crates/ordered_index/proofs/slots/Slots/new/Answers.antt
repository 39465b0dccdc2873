use Rattle.std.proofs.Common.{◌^◌, refl}
use Rattle.ordered_index.specs.declared.slots.TheConstants.{LEVELS}
use Rattle.ordered_index.proofs.SlotCalls.{blank-seen}
use Rattle.ordered_index.proofs.SlotMoments.{blank-due}
use Rattle.ordered_index.proofs.slots.Slots.new.Goals as goal

pub invariant_of-result : goal.invariant_of-result
invariant_of-result g c =
    blank-due g.L.Expires.expiry c.new-3.result c.in_ok-order.order c.in_ok-leasts.leasts c.new-3.ensures.empty c.in_ok-order.ensures.entries c.in_ok-order.ensures.ordered
    (2 ^ LEVELS) refl c.in_ok-leasts.ensures

pub returns : goal.returns
returns g c = blank-seen c.new-3.result c.in_ok-order.order c.new-3.ensures.empty c.in_ok-order.ensures.entries c.in_ok-order.ensures.ordered
