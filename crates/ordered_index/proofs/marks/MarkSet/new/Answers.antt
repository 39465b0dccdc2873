use Rattle.ordered_index.proofs.MarkLemmas.{blank_marks, blank_summed}
use Rattle.ordered_index.proofs.marks.MarkSet.new.Goals as goal

pub invariant_of-result : goal.invariant_of-result
invariant_of-result c =
    blank_summed c.in_ok-low.low.items c.in_ok-high.high.items c.in_ok-low.ensures.blank c.in_ok-low.ensures.all c.in_ok-high.ensures.all c.in_ok-high.ensures.blank

pub returns : goal.returns
returns c = blank_marks c.in_ok-low.low.items c.in_ok-high.high.items c.in_ok-low.ensures.blank
