-- The laws of picks, and of a pool that is the pool of a state (our own).
use Rattle.std.specs.Prelude.{◌≡◌, ℕ, ◌+◌, ◌-◌, ◌≤◌, ◌↔◌, ◌&&◌, if◌then◌else◌, not, IsTrue, true, false, Option}
use Rattle.pcp_base.specs.declared.addresses.Address.{Address}
use Rattle.pcp_base.specs.declared.leases.Protocol.{Protocol}
use Rattle.pcp_base.specs.declared.leases.Endpoint.{Endpoint}
use Rattle.pcp_base.specs.Tables.{live, same_protocol}
use Rattle.pcp_base.specs.Owners.{owners, is_owned, owned}
use Rattle.pcp_base.specs.Ends.{rests, rests_for}
use Rattle.pcp_base.specs.States.{State}
use Rattle.port_runs.specs.Ports.{is_in_run}
use Rattle.external_pool.specs.PortUses.{PortUses, is_in_range, is_vacant, is_open, use_along}
use Rattle.external_pool.specs.Holdings.{Holdings, IsWhole, uses_of, use_of, with_use, fresh_pool, ports_held}
use Rattle.external_pool.specs.Choosing.{IsPick}
use Rattle.external_pool.specs.PoolOf.{IsPoolOf}
use Rattle.external_pool.specs.declared.asks.Picked.{Picked}
use Rattle.external_pool.specs.declared.uses.Use.{Use}

-- there is at most one pick
abbrev pub PicksAreOne : Type 0
PicksAreOne =
    (uses : PortUses) (who : Address) (internal suggested : ℕ) (parity : Option ℕ) (room : ℕ)
    (one other : Option Picked) → IsPick uses who internal suggested parity room one →
    IsPick uses who internal suggested parity room other → one ≡ other

-- an address holds as many ports as its live leases own
abbrev pub PoolsCountOwners : Type 0
PoolsCountOwners = (pool : Holdings) (s : State) (m : ℕ) (who : Address) → IsPoolOf pool s m →
    ports_held pool who ≡ owned s.table m who

-- a port is vacant exactly where it is in the range, no live lease owns it and it doesn't rest
abbrev pub PoolsTellVacant : Type 0
PoolsTellVacant = (pool : Holdings) (s : State) (m : ℕ) (protocol : Protocol) (port : ℕ) →
    IsPoolOf pool s m →
    is_vacant (uses_of pool protocol) port
    ≡ (is_in_range (uses_of pool protocol).low (uses_of pool protocol).high port
    && (not (is_owned protocol port (owners (live s.table m))) && not (rests s m protocol port)))

-- a port is in the range, no live lease owns it, and it rests for no other endpoint
pub record IsOpenTo (pool : Holdings) (s : State) (m : ℕ) (e : Endpoint) (port : ℕ) : Type 0 where
  pub ranges :
      IsTrue (is_in_range (uses_of pool e.protocol).low (uses_of pool e.protocol).high port)
  pub unowned : is_owned e.protocol port (owners (live s.table m)) ≡ false
  pub rests : (other : Endpoint) → other.protocol ≡ e.protocol →
      rests_for s m port other ≡ true → other ≡ e

-- a port is open to an endpoint exactly where that holds
abbrev pub PoolsTellOpen : Type 0
PoolsTellOpen = (pool : Holdings) (s : State) (m : ℕ) (e : Endpoint) (port : ℕ) →
    IsPoolOf pool s m →
    IsTrue (is_open (uses_of pool e.protocol) e.address e.port port) ↔ IsOpenTo pool s m e port

-- A pool has a use for each port number from its beginning on.
abbrev pub NewPoolsAreWhole : Type 0
NewPoolsAreWhole = (low high quota : ℕ) → IsWhole (fresh_pool low high quota)

abbrev pub PoolsStayWhole : Type 0
PoolsStayWhole = (pool : Holdings) (protocol : Protocol) (start n : ℕ) (value : Use) →
    IsWhole pool → start + n ≤ 65536 → IsWhole (with_use protocol start n value pool)

-- what each port is used for after some ports got a use
abbrev pub UsesChangeInARun : Type 0
UsesChangeInARun = (pool : Holdings) (protocol : Protocol) (start n : ℕ) (value : Use) →
    IsWhole pool → start + n ≤ 65536 → (other : Protocol) (port : ℕ) →
    use_of (with_use protocol start n value pool) other port
    ≡ (if same_protocol protocol other && is_in_run start n port
    then use_along (port - start) value
    else use_of pool other port)
