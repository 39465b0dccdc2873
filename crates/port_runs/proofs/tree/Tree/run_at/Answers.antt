use Rattle.port_runs.proofs.WordFlags.{words_of_flags}
use Rattle.port_runs.proofs.tree.Tree.run_at.Goals as goal

pub run_at-requires-clause-words : goal.run_at-requires-clause-words
run_at-requires-clause-words c = rw c.deref.ensures.value (words_of_flags c.self.inside.words.items c.self.invariant.whole)
