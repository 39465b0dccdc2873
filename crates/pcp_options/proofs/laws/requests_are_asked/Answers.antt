use Rattle.pcp_options.proofs.RequestLaws.{requests-asked}
use Rattle.pcp_options.proofs.laws.requests_are_asked.Goals as goal

pub returns : goal.returns
returns c = requests-asked
