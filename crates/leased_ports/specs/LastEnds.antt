-- The last end of each port, which came or is to come (our own).
use Rattle.std.specs.Prelude.{ℕ, nat_le, List, Option, Some, None, filter, find, if◌then◌else◌}
use Rattle.pcp_base.specs.declared.leases.Protocol.{Protocol}
use Rattle.pcp_base.specs.declared.leases.End.{End}
use Rattle.pcp_base.specs.Ends.{ends_at_expiry, with_ends, is_recent, is_end_of}
use Rattle.pcp_base.specs.States.{State}

-- of each port that leases of the table own, the latest of the ends that they leave when they
-- expire; and the ends of the state
abbrev pub last_ends : State → List End
last_ends s = with_ends (ends_at_expiry s.table) s.ends

-- the end, where it came by m
abbrev pub come : ℕ → Option End → Option End
come m None = None
come m (Some e) = if nat_le e.end m then Some e else None

-- the last end of this port, while the port is held or rests at m
abbrev pub last_end : State → ℕ → Protocol → ℕ → Option End
last_end s m protocol port = find (is_end_of protocol port) (filter (is_recent m) (last_ends s))
