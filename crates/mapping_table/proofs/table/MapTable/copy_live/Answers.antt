use Rattle.mapping_table.proofs.AgedMaps.{both_slots}
use Rattle.mapping_table.proofs.table.MapTable.copy_live.Goals as goal

pub append_live-requires : goal.append_live-requires
append_live-requires c =
    both_slots c.self.inside.leases c.self.inside.filters c.self.inside.past c.leases-leases.result.now c.leases-leases.ensures c.tell_order.ensures.ordered c.self.invariant.apart
