use Rattle.lease_histories.proofs.Growing.{prefix-legal}
use Rattle.lease_histories.proofs.EntryKinds.{well-after}
use Rattle.lease_histories.proofs.laws.states_stand.Goals as goal

pub returns : goal.returns
returns c x opening before more opens legal =
    let well = well-after c.datagram_asks_are_well_formed.ensures c.decisions_fit.ensures x opening before opens (prefix-legal x opening before more legal) in
    record {
      reached = well.reached;
      started = well.started;
    }
