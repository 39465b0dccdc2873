use Rattle.std.proofs.Common.{◌≡◌, map, take}
use Rattle.serde_json.specs.View.{view}
use Rattle.lease_json.specs.Objects.{peer_value}
use Rattle.lease_json.proofs.leases.peers_of.Given as goal

abbrev pub invariant-loop-lease : goal.invariant-loop-lease
invariant-loop-lease l = map view l.values.items ≡ map peer_value (take l.lease-index l.leases)
