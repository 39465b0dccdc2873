use Rattle.lease_core.proofs.DecisionLaws.{decisions-keep}
use Rattle.lease_core.proofs.laws.decisions_keep_owners.Goals as goal

pub returns : goal.returns
returns c terms s m ask may = decisions-keep c.new_leases_need_room.ensures.fits c.states_are_sound.ensures.kept c.ports_have_one_owner.ensures terms s m ask may
