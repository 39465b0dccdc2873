use Rattle.decision_laws.proofs.AddressLemmas.{answers-address}
use Rattle.decision_laws.proofs.laws.answers_tell_the_address.Goals as goal

pub returns : goal.returns
returns c = answers-address
