use Rattle.std.proofs.Common.{◌≡◌, ◌+◌, ◌*◌, ◌≤◌, drop}
use Rattle.pcp_base.specs.Owners.{port_count}
use Rattle.plain_store.specs.AddressPorts.{owners_at}
use Rattle.plain_store.proofs.counts.map_ports.Given as goal

-- what is counted, and what is to be counted of the rest
abbrev pub invariant-loop-i : goal.invariant-loop-i
invariant-loop-i l =
    (l.count + port_count (owners_at l.m l.who (drop l.i l.maps) l.peers) ≡ port_count (owners_at l.m l.who l.maps l.peers))
    × (l.count ≤ 65535 * l.i)
