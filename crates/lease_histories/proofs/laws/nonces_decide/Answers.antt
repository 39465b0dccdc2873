use Rattle.lease_histories.proofs.Nonces.{nonces-decide}
use Rattle.lease_histories.proofs.laws.nonces_decide.Goals as goal

pub returns : goal.returns
returns c =
    nonces-decide c.datagram_asks_are_well_formed.ensures c.decisions_fit.ensures c.decisions_change_leases.ensures c.nonces_match.ensures
