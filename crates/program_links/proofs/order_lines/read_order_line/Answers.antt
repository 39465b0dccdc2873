use Rattle.program_links.proofs.OrderLemmas.{none_line, only_line, some_line}
use Rattle.program_links.proofs.order_lines.read_order_line.Goals as goal

pub returns-clause-some : goal.returns-clause-some
returns-clause-some c = some_line _ _ c.read_order_text.result c.in-Some.ensures.some c.read_order_text.ensures.some

pub returns-clause-only : goal.returns-clause-only
returns-clause-only c = only_line _ _ c.read_order_text.result c.in-Some.ensures.some c.read_order_text.ensures.only

pub returns-clause-none : goal.returns-clause-none
returns-clause-none c = none_line _ _ c.read_order_text.result c.in-Some.ensures.some c.read_order_text.ensures.none
