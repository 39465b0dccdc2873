use Rattle.ordered_index.proofs.MarkLemmas.{none_in_word, last_in_word}
use Rattle.ordered_index.proofs.marks.last_in_word.Goals as goal

pub returns-in_default : goal.returns-in_default
returns-in_default c = none_in_word c.args.words.now c.args.n c.in_default.ensures

pub returns : goal.returns
returns c = last_in_word c.args.words.now c.args.n c.in-Some.bit c.in-Some.ensures
