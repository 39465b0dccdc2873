use Rattle.lease_core.proofs.DecisionLaws.{rests-kept}
use Rattle.lease_core.proofs.laws.rests_are_kept.Goals as goal

pub returns : goal.returns
returns c terms s m ask may = rests-kept terms s m ask may
