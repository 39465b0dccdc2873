-- The numbers of the transport protocols (RFC 6887, section 11.1, by the numbers of IANA).
use Rattle.std.specs.Prelude.{ℕ, ◌==◌, Option, Some, None, if◌then◌else◌}
use Rattle.pcp_base.specs.declared.leases.Protocol.{Protocol}
use Rattle.pcp_base.specs.declared.leases.Protocol.TheVariants.{Tcp, Udp}

abbrev pub protocol_number : Protocol → ℕ
protocol_number Tcp = 6
protocol_number Udp = 17

-- the protocol that has this number
abbrev pub protocol_of : ℕ → Option Protocol
protocol_of n = if n == 6 then Some Tcp else if n == 17 then Some Udp else None
