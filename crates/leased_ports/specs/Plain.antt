-- Asks for one port of any parity, and what ports are used for by their last ends (our own).
use Rattle.std.specs.Prelude.{ℕ, ◌==◌, ◌&&◌, Bool, List, map, Option, None, Some, is_none, nat_lt, if◌then◌else◌}
use Rattle.std.specs.List.{range_with_len}
use Rattle.pcp_base.specs.declared.addresses.Address.{Address}
use Rattle.pcp_base.specs.declared.leases.Protocol.{Protocol}
use Rattle.pcp_base.specs.declared.leases.Protocol.TheVariants.{Tcp, Udp}
use Rattle.pcp_base.specs.declared.leases.End.{End}
use Rattle.external_pool.specs.declared.asks.PickAsk.{PickAsk}
use Rattle.external_pool.specs.declared.asks.Picked.{Picked}
use Rattle.external_pool.specs.declared.uses.Use.{Use}
use Rattle.external_pool.specs.PortUses.{PortUses, uses_over}
use Rattle.external_pool.specs.Holdings.{Holdings, pool_of, ports_held}
use Rattle.port_spans.specs.declared.runs.Run.{Run}
use Rattle.leased_ports.specs.Leased.{Leased}
use Rattle.leased_ports.specs.Kept.{end_by, use_by}

-- whether an ask is for one port of any parity
abbrev pub is_plain : PickAsk → Bool
is_plain ask = ask.room == 1 && is_none ask.parity

-- what would be picked of one port
abbrev pub one_port : ℕ → Picked
one_port port = record { start = port; count = 1 }

-- the lesser of two numbers, of which either may be missing
abbrev pub lesser : Option ℕ → Option ℕ → Option ℕ
lesser None b = b
lesser (Some a) None = Some a
lesser (Some a) (Some b) = if nat_lt b a then Some b else Some a

-- what each of so many ports of a protocol is used for at m, by its last end (for proofs alone)
unfoldable pub each_by : ℕ → List (Run End) → Protocol → ℕ → List Use
each_by m runs protocol count =
    map (λ port. use_by m (end_by runs protocol port)) (range_with_len 0 count)

abbrev pub uses_by : (low high m : ℕ) → List (Run End) → Protocol → PortUses
uses_by low high m runs protocol = uses_over low high (each_by m runs protocol 65536)

-- the pool of them
abbrev pub pool_by : (low high quota m : ℕ) → List (Run End) → Holdings
pool_by low high quota m runs =
    pool_of quota (uses_by low high m runs Tcp) (uses_by low high m runs Udp)

-- what the ports of a protocol are used for at the moment reached, and how many an address holds
abbrev pub uses_now : Leased → Protocol → PortUses
uses_now v protocol = uses_by v.low v.high v.reached v.runs protocol

abbrev pub held_now : Leased → Address → ℕ
held_now v who = ports_held (pool_by v.low v.high v.quota v.reached v.runs) who
