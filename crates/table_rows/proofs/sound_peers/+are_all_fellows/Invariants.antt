use Rattle.std.proofs.Common.{length}
use Rattle.table_rows.proofs.sound_peers.+are_all_fellows.Given as goal

abbrev pub decreases-are_all_fellows : goal.decreases-are_all_fellows
decreases-are_all_fellows l = length l.leases.now
