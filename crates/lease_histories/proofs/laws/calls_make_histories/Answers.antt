use Rattle.lease_histories.proofs.SoloCalls.{calls-make}
use Rattle.lease_histories.proofs.laws.calls_make_histories.Goals as goal

pub returns : goal.returns
returns c = calls-make c.datagram_asks_are_well_formed.ensures c.decisions_fit.ensures c.decisions_change_leases.ensures
