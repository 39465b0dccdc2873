use Rattle.std.proofs.Common.{Some, ap}
use Rattle.order_commands.proofs.WordLemmas.{lose-only}
use Rattle.order_commands.proofs.commands.order_of.Goals as goal

pub returns-in-Some-clause-only : goal.returns-in-Some-clause-only
returns-in-Some-clause-only c = λ plan is. ap Some (lose-only _ c.in-Some.address c.in-Some.ensures.value c.in-Some.ensures.only plan is)
