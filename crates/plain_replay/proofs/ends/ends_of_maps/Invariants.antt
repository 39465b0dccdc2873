use Rattle.std.proofs.Common.{◌≡◌, flat_map, map, take}
use Rattle.pcp_base.specs.Ends.{end_at}
use Rattle.pcp_base.specs.Owners.{map_owners}
use Rattle.plain_replay.proofs.ends.ends_of_maps.Given as goal

abbrev pub invariant-loop-lease : goal.invariant-loop-lease
invariant-loop-lease l = l.left.items ≡ flat_map (λ k. map (end_at k.expiry) (map_owners k)) (take l.lease-index l.maps)
