use Rattle.std.proofs.Common.{◌-◌, ◌≤◌}
use Rattle.random_words.proofs.source_entropies.four_of.Given as goal

abbrev pub invariant-loop-read : goal.invariant-loop-read
invariant-loop-read g l = l.read ≤ 4

abbrev pub decreases-loop-read : goal.decreases-loop-read
decreases-loop-read g l = 4 - l.read
