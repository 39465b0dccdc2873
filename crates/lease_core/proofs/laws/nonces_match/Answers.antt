use Rattle.lease_core.proofs.DecisionLaws.{nonces-match}
use Rattle.lease_core.proofs.laws.nonces_match.Goals as goal

pub returns : goal.returns
returns c terms s m ask may = nonces-match terms s m ask may
