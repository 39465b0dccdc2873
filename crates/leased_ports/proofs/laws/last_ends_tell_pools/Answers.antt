use Rattle.leased_ports.proofs.PoolLemmas.{pool-state}
use Rattle.leased_ports.proofs.laws.last_ends_tell_pools.Goals as goal

pub returns : goal.returns
returns c = pool-state
