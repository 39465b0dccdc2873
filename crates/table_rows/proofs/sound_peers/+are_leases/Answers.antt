use Rattle.ordered_index.proofs.FirstAndRest.{on-true, all-from_first}
use Rattle.pcp_base.specs.Tables.{IsPeerLease}
use Rattle.table_rows.proofs.sound_peers.+are_leases.Goals as goal

pub returns-then-is_lease : goal.returns-then-is_lease
returns-then-is_lease n c = on-true c.are_leases.result (all-from_first IsPeerLease c.args.leases.now c.first-item.result c.in-len1-up.len_at_least c.first-item.is c.if-is_lease.ensures) c.are_leases.ensures
