use Rattle.std.proofs.Common.{◌≡◌, ℕ, ◌+◌, ◌-◌, ◌≤◌, not, count_by, Bool}
use Rattle.std.specs.List.{range_with_len}
use Rattle.pcp_base.specs.Owners.{is_owned}
use Rattle.plain_store.specs.AddressPorts.{owners_at}
use Rattle.plain_store.proofs.counts.new_ports.Given as goal

-- what is counted, and what is to be counted of the rest
abbrev pub invariant-loop-i : goal.invariant-loop-i
invariant-loop-i l =
    let free : ℕ → Bool = λ i. not (is_owned l.lease.protocol (l.lease.external + i) (owners_at l.m l.who l.maps l.peers)) in
    (l.count + count_by free (range_with_len l.i (l.lease.count - l.i)) ≡ count_by free (range_with_len 0 l.lease.count)) × (l.count ≤ l.i)
