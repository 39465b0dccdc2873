use Rattle.pcp_base.proofs.ApplyLaws.{SoundState-apply}
use Rattle.pcp_base.proofs.laws.tables_decide.Goals as goal

pub returns : goal.returns
returns c = SoundState-apply
