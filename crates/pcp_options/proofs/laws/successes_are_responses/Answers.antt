use Rattle.pcp_options.proofs.ResponseLaws.{success-is}
use Rattle.pcp_options.proofs.laws.successes_are_responses.Goals as goal

pub returns : goal.returns
returns c = success-is
