use Rattle.std.proofs.Common.{length, ◌+◌, ◌*◌}
use Rattle.lane_loops.proofs.threads.+lanes.Given as goal

abbrev pub decreases-run_lanes : goal.decreases-run_lanes
decreases-run_lanes g l = 3 * length l.lanes.now

abbrev pub decreases-run_both : goal.decreases-run_both
decreases-run_both g l = 3 * length l.lanes.now + 2

abbrev pub decreases-run_both-rest : goal.decreases-run_both-rest
decreases-run_both-rest g l = 3 * length l.lanes.now + 1
