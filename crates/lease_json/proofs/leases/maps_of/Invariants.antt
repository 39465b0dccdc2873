use Rattle.std.proofs.Common.{◌≡◌, map, take}
use Rattle.serde_json.specs.View.{view}
use Rattle.lease_json.specs.Objects.{map_value}
use Rattle.lease_json.proofs.leases.maps_of.Given as goal

abbrev pub invariant-loop-lease : goal.invariant-loop-lease
invariant-loop-lease l = map view l.values.items ≡ map map_value (take l.lease-index l.leases)
