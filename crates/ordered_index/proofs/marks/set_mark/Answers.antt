use Rattle.ordered_index.proofs.MarkLemmas.{summed_on}
use Rattle.ordered_index.proofs.marks.set_mark.Goals as goal

pub returns-clause-summed : goal.returns-clause-summed
returns-clause-summed c =
    summed_on c.args.low.now c.args.high.now c.mark.new.words c.mark-2.new.words c.args.n c.args.value c.requires.summed c.mark.ensures c.mark-2.ensures
