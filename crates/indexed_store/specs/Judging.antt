-- Whether records fit, by look-ups (our own; for proofs alone).
use Rattle.std.specs.Prelude.{◌≡◌, ℕ, ◌+◌, ◌-◌, ◌≤◌, ◌&&◌, ◌||◌, ◌==◌, nat_lt, not, is_some, Bool, true, Option, Some, None, if◌then◌else◌}
use Rattle.std.specs.Option.{option_map}
use Rattle.pcp_base.specs.declared.leases.TheConstants.{MOST_PEERS}
use Rattle.pcp_base.specs.declared.leases.Endpoint.{Endpoint}
use Rattle.pcp_base.specs.declared.leases.MapLease.{MapLease}
use Rattle.pcp_base.specs.declared.leases.Protocol.{Protocol}
use Rattle.pcp_base.specs.declared.leases.Owner.{Owner}
use Rattle.pcp_base.specs.declared.leases.End.{End}
use Rattle.pcp_base.specs.Tables.{Table, is_map_of, same_endpoint}
use Rattle.pcp_base.specs.Ends.{is_recent}
use Rattle.pcp_base.specs.Reached.{IsReached}
use Rattle.indexed_store.specs.Indexed.{IsKept}
use Rattle.indexed_store.specs.Tabled.{TabledState}
use Rattle.lease_store.specs.Lookups.{covering, named_port, peer_count}
use Rattle.leased_ports.specs.Leased.{Leased, end_of, while_recent}

-- leases and ports are those of the state at its last moment, and m isn't before it
pub record IsCurrent (s : TabledState) (m : ℕ) : Type 0 where
  pub reached : IsReached s.state
  pub kept : IsKept s
  pub at_last : s.ports.reached ≡ s.state.last
  pub later : s.state.last ≤ m

-- no lease that is live at m holds the port of this last end for another endpoint
abbrev pub is_unheld : ℕ → Option End → Endpoint → Bool
is_unheld m None e = true
is_unheld m (Some x) e = not (nat_lt m x.end) || same_endpoint x.endpoint e

-- by this last end the port doesn't rest at m for another endpoint
abbrev pub is_unrested : ℕ → Option End → Endpoint → Bool
is_unrested m None e = true
is_unrested m (Some x) e = nat_lt m x.end || not (is_recent m x) || same_endpoint x.endpoint e

-- the last end of a port, while it is recent at the moment reached
abbrev pub last_told : Leased → Protocol → ℕ → Option End
last_told v protocol port = while_recent v.reached (end_of v protocol port)

-- the same of an owner's port and endpoint
abbrev pub unheld_by : ℕ → Leased → Owner → Bool
unheld_by m v o = is_unheld m (last_told v o.protocol o.external) o.endpoint

abbrev pub unrested_by : ℕ → Leased → Owner → Bool
unrested_by m v o = is_unrested m (last_told v o.protocol o.external) o.endpoint

-- there is no port, or it is this one
abbrev pub is_at_most : Option ℕ → ℕ → Bool
is_at_most None n = true
is_at_most (Some k) n = k == n

-- the port of the live MAP lease that covers the endpoint
abbrev pub covered_port : Table → ℕ → Endpoint → Option ℕ
covered_port t m e = option_map (λ l. l.external + (e.port - l.internal)) (covering t m e)

-- a new MAP lease may have this port
abbrev pub has_room_at : Table → ℕ → Leased → Owner → Bool
has_room_at t m v o = (not (is_some (covering t m o.endpoint))
    && is_at_most (named_port t m o.endpoint) o.external) && unheld_by m v o

-- a new PEER lease may have this port
abbrev pub peer_has_room : Table → ℕ → Leased → Owner → Bool
peer_has_room t m v o = ((nat_lt (peer_count t m o.endpoint) MOST_PEERS
    && is_at_most (covered_port t m o.endpoint) o.external)
    && is_at_most (named_port t m o.endpoint) o.external) && unheld_by m v o

-- the lease, where this is its key: its first endpoint
abbrev pub map_with_key : Endpoint → Option MapLease → Option MapLease
map_with_key e None = None
map_with_key e (Some l) = if is_map_of e l then Some l else None
