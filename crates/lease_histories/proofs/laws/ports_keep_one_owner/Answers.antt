use Rattle.lease_histories.specs.Legal.{state_after}
use Rattle.lease_histories.proofs.laws.ports_keep_one_owner.Goals as goal

pub returns : goal.returns
returns c x opening before more opens legal m =
    c.ports_have_one_owner.ensures (state_after opening before) m (c.states_stand.ensures x opening before more opens legal).reached.sound
