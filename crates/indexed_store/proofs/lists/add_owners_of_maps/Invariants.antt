use Rattle.std.proofs.Common.{◌≡◌, ◌++◌, flat_map, take}
use Rattle.pcp_base.specs.Owners.{map_owners}
use Rattle.indexed_store.proofs.lists.add_owners_of_maps.Given as goal

abbrev pub invariant-loop-lease : goal.invariant-loop-lease
invariant-loop-lease l = l.owners.items ≡ l.fn.owners.items ++ flat_map map_owners (take l.lease-index l.maps)
