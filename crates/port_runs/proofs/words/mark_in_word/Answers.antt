use Rattle.std.proofs.Common.{arith}
use Rattle.port_runs.proofs.WordFlags.{word_marked}
use Rattle.port_runs.proofs.words.mark_in_word.Goals as goal

pub returns : goal.returns
returns c = word_marked c.args.words.now c.args.from c.args.to c.marked.result c.args.value (omega (arith, c.requires.ordered, c.requires.within)) c.requires.one c.marked.ensures
