use Rattle.std.proofs.Common.{◌≡◌, ◌++◌, map, take}
use Rattle.pcp_base.specs.Ends.{end_at}
use Rattle.pcp_base.specs.Owners.{peer_owner}
use Rattle.plain_replay.proofs.ends.add_ends_of_peers.Given as goal

abbrev pub invariant-loop-lease : goal.invariant-loop-lease
invariant-loop-lease l = l.left.items ≡ l.fn.left.items ++ map (λ k. end_at k.expiry (peer_owner k)) (take l.lease-index l.peers)
