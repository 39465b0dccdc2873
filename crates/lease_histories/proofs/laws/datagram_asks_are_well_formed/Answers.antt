use Rattle.lease_histories.proofs.DatagramAsks.{both-formed}
use Rattle.lease_histories.proofs.laws.datagram_asks_are_well_formed.Goals as goal

pub returns : goal.returns
returns c = both-formed c.asks_are_well_formed.ensures c.front_asks_are_well_formed.ensures
