use Rattle.std.proofs.Common.{◌≡◌, ◌≤◌, length}
use Rattle.pcp_base.specs.declared.configs.TheConstants.{MOST_EXTERNALS}
use Rattle.program_texts.proofs.told_disks.told_journals_in.Given as goal

-- a pair for each place so far
abbrev pub invariant-loop-place : goal.invariant-loop-place
invariant-loop-place l = (length l.pairs.items ≡ l.place) × (l.place ≤ MOST_EXTERNALS)
