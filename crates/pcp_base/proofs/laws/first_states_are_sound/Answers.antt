use Rattle.pcp_base.proofs.ApplyLaws.{IsReachedFirst-apply, IsReachedFirst-state_of}
use Rattle.pcp_base.proofs.laws.first_states_are_sound.Goals as goal

pub returns-clause-made : goal.returns-clause-made
returns-clause-made c = IsReachedFirst-state_of

pub returns-clause-kept : goal.returns-clause-kept
returns-clause-kept c = IsReachedFirst-apply
