use Rattle.std.proofs.Common.{arith}
use Rattle.indexed_store.proofs.applying.apply.Goals as goal

pub returns-then-empties-clause-steps : goal.returns-then-empties-clause-steps
returns-then-empties-clause-steps g c = let begun = c.begin.ensures.steps in omega (arith, begun)
