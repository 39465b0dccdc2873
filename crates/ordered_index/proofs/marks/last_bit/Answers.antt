use Rattle.ordered_index.proofs.MarkLemmas.{none_kept, last_kept}
use Rattle.ordered_index.proofs.marks.last_bit.Goals as goal

pub returns-then-kept-eq0 : goal.returns-then-kept-eq0
returns-then-kept-eq0 c = none_kept c.args.word c.args.n c.requires c.if-kept-eq0.true

pub returns : goal.returns
returns c = last_kept c.args.word c.args.n c.requires c.top_bit.result c.top_bit.ensures
