use Rattle.std.proofs.Common.{◌≡◌, drop}
use Rattle.client_core.specs.Clients.{least}
use Rattle.client_core.specs.Dues.{least_next}
use Rattle.client_core.proofs.slots.least_next.Given as goal

abbrev pub invariant-loop-slot : goal.invariant-loop-slot
invariant-loop-slot l = least l.time (least_next (drop l.slot-index l.slots)) ≡ least_next l.slots
