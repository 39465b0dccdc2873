-- The last ends of ports, as lists (our own).
use Rattle.std.specs.Prelude.{ℕ, zero, suc, ◌+◌, ◌&&◌, nat_le, Bool, List, [], ◌++◌, filter, Option, option_to_list}
use Rattle.pcp_base.specs.declared.leases.Protocol.TheVariants.{Tcp, Udp}
use Rattle.pcp_base.specs.declared.leases.End.{End}
use Rattle.pcp_base.specs.Ends.{is_recent}
use Rattle.port_spans.specs.declared.runs.Run.{Run}
use Rattle.port_spans.specs.Runs.{run_at}
use Rattle.port_spans.specs.Along.{end_told}
use Rattle.leased_ports.specs.Leased.{Leased, end_of}

-- what there is at n numbers from one on
unfoldable pub listed : (ℕ → Option End) → ℕ → ℕ → List End
listed told at zero = []
listed told at (suc n) = option_to_list (told at) ++ listed told (at + 1) n

-- the last end at a spot
abbrev pub spot_end : List (Run End) → ℕ → Option End
spot_end runs at = end_told at (run_at runs at)

-- whether it came by m, and is recent then
abbrev pub has_come : ℕ → End → Bool
has_come m e = nat_le e.end m && is_recent m e

-- the last ends that came by m and are recent then, in the order of protocol number and port
abbrev pub ends_come : ℕ → Leased → List End
ends_come m v = filter (has_come m)
    (listed (end_of v Tcp) 0 65536 ++ listed (end_of v Udp) 0 65536)
