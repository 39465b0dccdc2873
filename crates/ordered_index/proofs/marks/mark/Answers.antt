use Rattle.ordered_index.proofs.MarkLemmas.{set_marks, clear_marks}
use Rattle.ordered_index.proofs.marks.mark.Goals as goal

pub returns-then-value : goal.returns-then-value
returns-then-value c = rw c.if-value.true (set_marks c.args.words.now c.args.n c.requires)

pub returns : goal.returns
returns c = rw c.if-value.false (clear_marks c.args.words.now c.args.n c.requires)
