use Rattle.std.proofs.Common.{length}
use Rattle.serve_runs.proofs.updates.+send_updates.Given as goal

abbrev pub decreases-send_updates : goal.decreases-send_updates
decreases-send_updates g l = length l.outs.now
