use Rattle.option_laws.proofs.AskedLemmas.{asks-of-requests}
use Rattle.option_laws.proofs.laws.asks_are_of_requests.Goals as goal

pub returns : goal.returns
returns c = asks-of-requests
