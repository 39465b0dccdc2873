use Rattle.std.proofs.Common.{length}
use Rattle.table_rows.proofs.sound_maps.+are_all_separate.Given as goal

abbrev pub decreases-are_all_separate : goal.decreases-are_all_separate
decreases-are_all_separate l = length l.leases.now
