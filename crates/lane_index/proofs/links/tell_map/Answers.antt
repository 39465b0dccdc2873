use Rattle.lane_index.proofs.LinkLemmas.{taken-map, taken-peer}
use Rattle.lane_index.proofs.links.tell_map.Goals as goal

pub returns-in-Mapping-clause-taken : goal.returns-in-Mapping-clause-taken
returns-in-Mapping-clause-taken c = λ cells is h.
    rw c.in-Mapping.is (taken-map cells c.args.maps.now c.in-Mapping.map c.args.number c.set_run.new.slots is h (λ k. rw (c.slot.ensures.slot, c.count.ensures.count) at (c.set_run.ensures.run k)))

pub returns-in-Peering-clause-taken : goal.returns-in-Peering-clause-taken
returns-in-Peering-clause-taken c = λ cells is h. rw c.in-Peering.is (taken-peer cells c.args.maps.now c.in-Peering._peer h)
