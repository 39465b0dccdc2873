use Rattle.program_links.proofs.OrderLemmas.{lost-none, lost-only}
use Rattle.program_links.proofs.order_lines.read_lost.Goals as goal

pub returns-in-Ok-clause-only : goal.returns-in-Ok-clause-only
returns-in-Ok-clause-only c = lost-only _ _ _ c.in-Some.ensures.some c.in-Ok.ensures.only

pub returns-in-Err-clause-none : goal.returns-in-Err-clause-none
returns-in-Err-clause-none c = lost-none _ _ c.in-Some.ensures.some c.in-Err.ensures.refused
