use Rattle.std.proofs.Common.{rules}
use Rattle.program_links.proofs.OrderLemmas.{lose-only, none-says, status-only, stop-only}
use Rattle.program_links.proofs.order_lines.read_order_text.Goals as goal

pub returns-then-is_stop-clause-only : goal.returns-then-is_stop-clause-only
returns-then-is_stop-clause-only c = stop-only _ (search rules)

pub returns-then-is_status-clause-only : goal.returns-then-is_status-clause-only
returns-then-is_status-clause-only c = status-only _ (search rules)

pub returns-in-Some-clause-only : goal.returns-in-Some-clause-only
returns-in-Some-clause-only c = lose-only _ _ c.in-Some.ensures.some c.in-Some.ensures.only

pub returns-in-None-clause-none : goal.returns-in-None-clause-none
returns-in-None-clause-none c = none-says _ (search rules) (search rules) c.in-None.ensures.none
