use Rattle.pcp_base.proofs.RestLaws.{ends_by-members}
use Rattle.pcp_base.proofs.laws.ends_at_a_moment.Goals as goal

pub returns : goal.returns
returns c = ends_by-members
