use Rattle.lane_index.specs.declared.links.TheConstants.{PORT_SLOTS}
use Rattle.lane_index.specs.Slots.{stands_in}
use Rattle.lane_index.proofs.ChainLemmas.{chained-skip, chained-join, stands-once}
use Rattle.lane_index.proofs.links.add_peer.Goals as goal

pub returns-in-None-clause-chained : goal.returns-in-None-clause-chained
returns-in-None-clause-chained c = λ cells h.
    rw c.skip.ensures (chained-skip PORT_SLOTS stands_in cells c.args.peers.now h c.args.cell.now c.in-None.ensures.none)

pub returns-in-Some-clause-chained : goal.returns-in-Some-clause-chained
returns-in-Some-clause-chained c = λ cells h.
    rw c.join.ensures (chained-join PORT_SLOTS stands_in cells c.args.peers.now h c.args.cell.now stands-once c.in-Some.slot c.in-Some.ensures.some.1 c.in-Some.ensures.some.0)
