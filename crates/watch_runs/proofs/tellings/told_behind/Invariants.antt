use Rattle.std.proofs.Common.{◌≤◌}
use Rattle.watch_runs.specs.declared.tellings.TheConstants.{MOST_LOOKS}
use Rattle.watch_runs.proofs.LookLemmas.{AreLooked}
use Rattle.watch_runs.proofs.tellings.told_behind.Given as goal

-- so many looks are behind
abbrev pub invariant-loop-look : goal.invariant-loop-look
invariant-loop-look g l = record {
  within : l._look ≤ MOST_LOOKS;
  so : AreLooked l.external l.shard l._look (g.L.JournalLooks.left l.fn.link) (g.L.JournalLooks.left l.link) l.told;
}
