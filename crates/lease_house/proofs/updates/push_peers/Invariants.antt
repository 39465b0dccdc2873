use Rattle.std.proofs.Common.{◌≡◌, ◌++◌, map, take}
use Rattle.pcp_announce.specs.Updates.{peer_update}
use Rattle.lease_house.specs.SoloOpenings.{update_to}
use Rattle.lease_house.proofs.updates.push_peers.Given as goal

abbrev pub invariant-loop-lease : goal.invariant-loop-lease
invariant-loop-lease l = l.updates.items
    ≡ l.initial.updates.items ++ map (λ x. update_to x.endpoint.address (peer_update x l.address l.m l.base)) (take l.lease-index l.leases)
