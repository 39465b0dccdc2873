use Rattle.std.proofs.Common.{arith}
use Rattle.port_runs.proofs.WordBits.{word_set, word_cleared}
use Rattle.port_runs.proofs.words.marked.Goals as goal

pub returns-then-value : goal.returns-then-value
returns-then-value c =
    rw c.if-value.true (word_set c.args.low c.args.high c.args.word c.mask-bits.result c.mask-bits.ensures)

pub returns-else-value : goal.returns-else-value
returns-else-value c =
    rw c.if-value.false (word_cleared c.args.low c.args.high c.args.word c.mask-bits.result (omega arith) c.requires.within c.mask-bits.ensures)
