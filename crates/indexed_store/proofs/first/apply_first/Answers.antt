use Rattle.std.proofs.Common.{sym, ◌∙◌}
use Rattle.indexed_store.proofs.FirstLemmas.{first-empties}
use Rattle.indexed_store.proofs.first.apply_first.Goals as goal

pub returns-then-empties-clause-applied : goal.returns-then-empties-clause-applied
returns-then-empties-clause-applied g c = c.begin.ensures.applied ∙ sym (first-empties c.args.state.now.state c.args.kept.now (sym c.empties.ensures ∙ c.if-empties.true))
