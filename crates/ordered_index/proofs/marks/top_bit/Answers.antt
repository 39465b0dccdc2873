use Rattle.ordered_index.proofs.MarkLemmas.{top_is}
use Rattle.ordered_index.proofs.marks.top_bit.Goals as goal

pub returns : goal.returns
returns c = top_is c.args.word c.ilog2.result c.ilog2.ensures.bound c.ilog2.ensures.power_le c.ilog2.ensures.next_power_gt
