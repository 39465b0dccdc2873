use Rattle.external_pool.proofs.OwnedPorts.{ports_held-owned}
use Rattle.external_pool.proofs.StateLemmas.{is_vacant-state, is_open-state}
use Rattle.external_pool.proofs.laws.pools_tell_states.Goals as goal

pub returns-clause-owned : goal.returns-clause-owned
returns-clause-owned c = ports_held-owned

pub returns-clause-vacant : goal.returns-clause-vacant
returns-clause-vacant c = is_vacant-state

pub returns-clause-opened : goal.returns-clause-opened
returns-clause-opened c = is_open-state
