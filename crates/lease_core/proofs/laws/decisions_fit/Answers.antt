use Rattle.lease_core.proofs.DecisionLaws.{decisions-fit}
use Rattle.lease_core.proofs.laws.decisions_fit.Goals as goal

pub returns : goal.returns
returns c terms s m ask may = decisions-fit c.new_leases_need_room.ensures.fits terms s m ask may
