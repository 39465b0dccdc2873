use Rattle.watch_runs.specs.declared.tellings.TheConstants.{MOST_LOOKS}
use Rattle.watch_runs.proofs.RunLemmas.{AreToldTo}
use Rattle.watch_runs.proofs.runs.told_all.Given as goal

abbrev pub invariant-loop-place : goal.invariant-loop-place
invariant-loop-place g l = AreToldTo g.L.JournalLooks.left MOST_LOOKS l.externals l.initial.links l.links l.all.items l.place
