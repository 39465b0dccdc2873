use Rattle.lease_core.proofs.DecisionLaws.{decisions-change}
use Rattle.lease_core.proofs.laws.decisions_change_leases.Goals as goal

pub returns : goal.returns
returns c terms s m ask = decisions-change terms s m ask
