use Rattle.std.proofs.Common.{◌≡◌, ◌+◌, ◌≤◌, drop}
use Rattle.pcp_base.specs.Owners.{port_count}
use Rattle.plain_store.specs.AddressPorts.{peer_owners_at}
use Rattle.plain_store.proofs.counts.peer_ports.Given as goal

-- what is counted, and what is to be counted of the rest
abbrev pub invariant-loop-i : goal.invariant-loop-i
invariant-loop-i l =
    (l.count + port_count (peer_owners_at l.m l.who (drop l.i l.peers)) ≡ port_count (peer_owners_at l.m l.who l.peers))
    × (l.count ≤ l.i)
