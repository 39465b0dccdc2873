use Rattle.std.proofs.Common.{length}
use Rattle.pcp_config.proofs.listening.+is_apart.Given as goal

abbrev pub decreases-is_apart : goal.decreases-is_apart
decreases-is_apart l = length l.others.now
