-- At how many ports something falls due, and how many an address holds (our own).
use Rattle.std.specs.Prelude.{ℕ, ◌+◌, ◌&&◌, zero, suc, nat_lt, Bool, false, Option, Some, None, if◌then◌else◌}
use Rattle.pcp_base.specs.declared.addresses.Address.{Address}
use Rattle.pcp_base.specs.Tables.{same_address}
use Rattle.pcp_base.specs.declared.leases.Protocol.{Protocol}
use Rattle.pcp_base.specs.declared.leases.Protocol.TheVariants.{Tcp, Udp}
use Rattle.pcp_base.specs.declared.leases.End.{End}
use Rattle.leased_ports.specs.Leased.{Leased, end_of}
use Rattle.leased_ports.specs.Kept.{until, phase_at}
use Rattle.leased_ports.specs.Falling.{is_due}

-- how many numbers below n pass a test
unfoldable pub count_below : (ℕ → Bool) → ℕ → ℕ
count_below test zero = 0
count_below test (suc n) = count_below test n + (if test n then 1 else 0)

-- whether what comes next for a port after a moment, its end or the end of its rest, comes by m
abbrev pub falls_due : ℕ → ℕ → Option End → Bool
falls_due from m None = false
falls_due from m (Some e) = is_due m (until (phase_at from e.end) e.end)

-- at how many ports of a protocol below n something comes by the moment reached that needn't have
-- been seen to
abbrev pub due_before : Leased → Protocol → ℕ → ℕ
due_before v protocol n =
    count_below (λ port. falls_due v.settled v.reached (end_of v protocol port)) n

-- at how many ports of both
abbrev pub ports_due : Leased → ℕ
ports_due v = due_before v Tcp 65536 + due_before v Udp 65536

-- whether an address holds a port by its last end, which comes after a moment
abbrev pub is_held_after : ℕ → Address → Option End → Bool
is_held_after m who None = false
is_held_after m who (Some e) = nat_lt m e.end && same_address e.endpoint.address who

-- how many ports the address may hold by the counts: those whose last ends are its own and come
-- after the moment by which all that fell due is seen to
abbrev pub held_since : Leased → Address → ℕ
held_since v who = count_below (λ port. is_held_after v.settled who (end_of v Tcp port)) 65536
    + count_below (λ port. is_held_after v.settled who (end_of v Udp port)) 65536
