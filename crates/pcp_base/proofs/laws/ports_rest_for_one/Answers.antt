use Rattle.pcp_base.proofs.RestLaws.{rests_for-one, rests_for-unowned, resting-mark}
use Rattle.pcp_base.proofs.laws.ports_rest_for_one.Goals as goal

pub returns-clause-one : goal.returns-clause-one
returns-clause-one c = rests_for-one

pub returns-clause-unowned : goal.returns-clause-unowned
returns-clause-unowned c = rests_for-unowned

pub returns-clause-marked : goal.returns-clause-marked
returns-clause-marked c = resting-mark
