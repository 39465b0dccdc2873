use Rattle.pcp_base.proofs.ApplyLaws.{IsReached-apply, IsReached-state_of}
use Rattle.pcp_base.proofs.laws.states_are_sound.Goals as goal

pub returns-clause-made : goal.returns-clause-made
returns-clause-made c = IsReached-state_of

pub returns-clause-kept : goal.returns-clause-kept
returns-clause-kept c = IsReached-apply
