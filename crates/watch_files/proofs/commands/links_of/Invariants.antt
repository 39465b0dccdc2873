use Rattle.std.proofs.Common.{◌≡◌, ◌≤◌, length}
use Rattle.watch_files.proofs.commands.links_of.Given as goal

-- one for each external address so far
abbrev pub invariant-loop-shard : goal.invariant-loop-shard
invariant-loop-shard l = (length l.links.items ≡ l.shard) × (l.shard ≤ l.count)
