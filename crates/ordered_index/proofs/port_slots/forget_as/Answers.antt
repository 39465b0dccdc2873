use Rattle.std.proofs.Common.{length, ap}
use Rattle.ordered_index.proofs.port_slots.forget_as.Goals as goal

pub set-requires : goal.set-requires
set-requires g c = ap length c.requires
