use Rattle.relay_rates.proofs.SiftLemmas.{telling-kept}
use Rattle.relay_rates.proofs.laws.telling_is_kept.Goals as goal

pub returns : goal.returns
returns g c = telling-kept g.M.RelayMachine.machine
