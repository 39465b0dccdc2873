use Rattle.std.proofs.Common.{length}
use Rattle.ordered_index.proofs.SlotCalls.{blank-seen}
use Rattle.ordered_index.proofs.SlotMoments.{blank-due}
use Rattle.ordered_index.proofs.slots.Slots.clear.Goals as goal

pub invariant_of-self : goal.invariant_of-self
invariant_of-self g c =
    blank-due g.L.Expires.expiry c.clear.new.self c.clear-2.new.self c.clear-3.new.self c.clear.ensures.empty c.clear-2.ensures.entries c.clear-2.ensures.ordered
    (length c.self.inside.leasts) c.self.invariant.due.all c.clear-3.ensures

pub returns : goal.returns
returns g c = blank-seen c.clear.new.self c.clear-2.new.self c.clear.ensures.empty c.clear-2.ensures.entries c.clear-2.ensures.ordered
