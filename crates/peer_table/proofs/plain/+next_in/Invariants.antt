use Rattle.std.proofs.Common.{length}
use Rattle.peer_table.proofs.plain.+next_in.Given as goal

abbrev pub decreases-next_in : goal.decreases-next_in
decreases-next_in l = length l.leases.now
