use Rattle.std.proofs.Common.{◌≡◌, ◌≤◌, length}
use Rattle.pcp_base.specs.declared.configs.TheConstants.{MOST_EXTERNALS}
use Rattle.program_links.proofs.server_links.lanes_from.Given as goal

-- one for each place so far
abbrev pub invariant-loop-place : goal.invariant-loop-place
invariant-loop-place l = (length l.lanes.items ≡ l.place) × (l.place ≤ MOST_EXTERNALS)
