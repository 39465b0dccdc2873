use Rattle.relay_rates.proofs.SiftLemmas.{rates-kept}
use Rattle.relay_rates.proofs.laws.rates_are_kept.Goals as goal

pub returns : goal.returns
returns c = rates-kept
