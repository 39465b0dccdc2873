use Rattle.std.proofs.Common.{◌≡◌, map, take}
use Rattle.serde_json.specs.View.{view}
use Rattle.lease_json.specs.Objects.{filter_value}
use Rattle.lease_json.proofs.leases.filters_of.Given as goal

abbrev pub invariant-loop-filter : goal.invariant-loop-filter
invariant-loop-filter l = map view l.values.items ≡ map filter_value (take l.filter-index l.filters)
