use Rattle.leased_ports.proofs.PickLemmas.{picks-state}
use Rattle.leased_ports.proofs.laws.pools_pick_for_states.Goals as goal

pub returns : goal.returns
returns c = picks-state
