use Rattle.lease_histories.proofs.Disclosure.{bases-disclose, bases-rise, epochs-disclose, openings-disclose, starts-disclose}
use Rattle.lease_histories.proofs.laws.epochs_disclose.Goals as goal

pub returns-clause-bases : goal.returns-clause-bases
returns-clause-bases c = bases-disclose c.datagram_asks_are_well_formed.ensures c.decisions_fit.ensures

pub returns-clause-rises : goal.returns-clause-rises
returns-clause-rises c = bases-rise

pub returns-clause-entries : goal.returns-clause-entries
returns-clause-entries c = epochs-disclose c.datagram_asks_are_well_formed.ensures c.decisions_fit.ensures

pub returns-clause-openings : goal.returns-clause-openings
returns-clause-openings c =
    openings-disclose c.datagram_asks_are_well_formed.ensures c.decisions_fit.ensures c.states_are_sound.ensures.made c.states_are_sound.ensures.kept

pub returns-clause-starts : goal.returns-clause-starts
returns-clause-starts c = starts-disclose c.datagram_asks_are_well_formed.ensures c.decisions_fit.ensures
