use Rattle.lane_index.proofs.ShownSteps.{knows_no_more}
use Rattle.lane_index.proofs.laws.nobody_knows_more.Goals as goal

pub returns : goal.returns
returns c = knows_no_more
