use Rattle.pcp_base.proofs.ApplyLaws.{OneOwner-at}
use Rattle.pcp_base.proofs.laws.ports_have_one_owner.Goals as goal

pub returns : goal.returns
returns c = OneOwner-at
