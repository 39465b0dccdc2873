use Rattle.pcp_options.proofs.AskLaws.{asks-formed}
use Rattle.pcp_options.proofs.laws.asks_are_well_formed.Goals as goal

pub returns : goal.returns
returns c = asks-formed
