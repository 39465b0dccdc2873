use Rattle.std.proofs.Common.{◌≡◌, ◌++◌, map, take}
use Rattle.pcp_base.specs.Owners.{peer_owner}
use Rattle.indexed_store.proofs.lists.add_owners_of_peers.Given as goal

abbrev pub invariant-loop-lease : goal.invariant-loop-lease
invariant-loop-lease l = l.owners.items ≡ l.fn.owners.items ++ map peer_owner (take l.lease-index l.peers)
