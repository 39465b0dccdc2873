use Rattle.ordered_index.specs.Hints.{no_hints}
use Rattle.ordered_index.proofs.hints.Hints.new.Goals as goal

pub returns : goal.returns
unfolding no_hints
returns c = c.in_ok-zeros.ensures
