use Rattle.lease_histories.proofs.RestSteps.{ports-rest, ports-stay}
use Rattle.lease_histories.proofs.laws.ports_rest.Goals as goal

pub returns-clause-rest : goal.returns-clause-rest
returns-clause-rest c =
    ports-rest c.datagram_asks_are_well_formed.ensures c.decisions_fit.ensures c.decisions_change_leases.ensures c.ends_at_a_moment.ensures
    c.ends_come_in_steps.ensures.recorded

pub returns-clause-stay : goal.returns-clause-stay
returns-clause-stay c =
    ports-stay c.datagram_asks_are_well_formed.ensures c.decisions_fit.ensures c.decisions_change_leases.ensures c.ends_at_a_moment.ensures
    c.ends_come_in_steps.ensures.recorded
