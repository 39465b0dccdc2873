use Rattle.std.proofs.Common.{length}
use Rattle.table_rows.proofs.sound_peers.+are_leases.Given as goal

abbrev pub decreases-are_leases : goal.decreases-are_leases
decreases-are_leases l = length l.leases.now
