use Rattle.step_count.proofs.LevelLemmas.{levels-grow}
use Rattle.step_count.proofs.laws.levels_grow.Goals as goal

pub returns : goal.returns
returns c = levels-grow
