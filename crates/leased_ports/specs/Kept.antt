-- What is kept of the last ends: runs of ports that have theirs together, and beside them a pool,
-- and a wheel that tells when each run goes to rest or awake (our own).
use Rattle.std.specs.Prelude.{◌≡◌, ℕ, ◌+◌, ◌-◌, ◌<◌, ◌≤◌, ◌^◌, ◌==◌, nat_lt, List, Option, Some, None, IfSome, if◌then◌else◌}
use Rattle.std.specs.Ordering.{nat_cmp}
use Rattle.std.specs.FinMap.{FinMap, get}
use Rattle.pcp_base.specs.declared.leases.TheConstants.{REST_SECONDS}
use Rattle.pcp_base.specs.declared.leases.Protocol.{Protocol}
use Rattle.pcp_base.specs.declared.leases.End.{End}
use Rattle.leased_ports.specs.Falling.{NoneDue}
use Rattle.leased_ports.specs.declared.phases.Phase.{Phase}
use Rattle.leased_ports.specs.declared.phases.Phase.TheVariants.{Holds, Rests, Over}
use Rattle.external_pool.specs.declared.uses.Use.{Use}
use Rattle.external_pool.specs.declared.uses.Use.TheVariants.{Free, Held, Resting}
use Rattle.external_pool.specs.PortUses.{use_along}
use Rattle.external_pool.specs.Holdings.{Holdings, IsWhole, use_of}
use Rattle.port_spans.specs.declared.runs.Run.{Run}
use Rattle.port_spans.specs.Runs.{run_at, AreRuns}
use Rattle.port_spans.specs.Along.{spot, spot_of, end_told}

-- the run that has a port
abbrev pub port_run : List (Run End) → Protocol → ℕ → Option (Run End)
port_run runs protocol port = if nat_lt port 65536 then run_at runs (spot protocol port) else None

-- the last end of a port
abbrev pub end_by : List (Run End) → Protocol → ℕ → Option End
end_by runs protocol port = end_told (spot protocol port) (port_run runs protocol port)

-- what a port is used for by its last end, in a phase
abbrev pub use_in : Phase → End → Use
use_in Holds e = Held e.endpoint.address
use_in Rests e = Resting e.endpoint.address e.endpoint.port
use_in Over e = Free

-- when what has that end comes into a phase
abbrev pub since : Phase → ℕ → ℕ
since Holds end = 0
since Rests end = end
since Over end = end + REST_SECONDS

-- and until when it waits in it
abbrev pub until : Phase → ℕ → Option ℕ
until Holds end = Some end
until Rests end = Some (end + REST_SECONDS)
until Over end = None

-- the phase at m
abbrev pub phase_at : ℕ → ℕ → Phase
phase_at m end =
    if nat_lt m end then Holds else if nat_lt m (end + REST_SECONDS) then Rests else Over

-- what a port is used for at m, by its last end
abbrev pub use_by : ℕ → Option End → Use
use_by m None = Free
use_by m (Some e) = use_in (phase_at m e.end) e

-- the phase in which it waits until then
abbrev pub phase_until : ℕ → Option ℕ → Phase
phase_until end None = Over
phase_until end (Some expiry) = if expiry == end then Holds else Rests

-- a run's phase, which may lag behind the moment that is reached
abbrev pub phase_by : FinMap nat_cmp ℕ → Run End → Phase
phase_by waits r = phase_until r.value.end (get waits r.first)

-- what a port at a spot of a run is used for
abbrev pub use_told : FinMap nat_cmp ℕ → ℕ → Option (Run End) → Use
use_told waits at None = Free
use_told waits at (Some r) = use_along (at - r.first) (use_in (phase_by waits r) r.value)

-- until when a run waits that begins at a spot
abbrev pub wait_told : FinMap nat_cmp ℕ → ℕ → Option (Run End) → Option ℕ
wait_told waits at None = None
wait_told waits at (Some r) = if r.first == at then until (phase_by waits r) r.value.end else None

-- the pool's range and quota
pub record IsOn (pool : Holdings) (low high most : ℕ) : Type 0 where
  pub quota : pool.quota ≡ most
  pub tcp_low : pool.tcp.low ≡ low
  pub tcp_high : pool.tcp.high ≡ high
  pub udp_low : pool.udp.low ≡ low
  pub udp_high : pool.udp.high ≡ high

-- a run of ports from 1 to 65535 of a protocol, whose value is the last end of the first
pub record IsSet (r : Run End) : Type 0 where
  pub first : r.first ≡ spot_of r.value
  pub some : 1 ≤ r.count
  pub external : 1 ≤ r.value.external
  pub within : r.value.external + r.count ≤ 65536
  pub internal : r.value.endpoint.port + r.count ≤ 65536
  pub near : r.value.end < 2 ^ 41

-- the wheel has each run that waits, under its first spot
pub record AreScheduled (runs : List (Run End)) (waits : FinMap nat_cmp ℕ) : Type 0 where
  pub apart : AreRuns runs
  pub set : (at : ℕ) → IfSome (run_at runs at) IsSet
  pub waiting : (at : ℕ) → get waits at ≡ wait_told waits at (run_at runs at)

-- and the pool uses their ports by their phases
pub record AreInStep (runs : List (Run End)) (pool : Holdings) (waits : FinMap nat_cmp ℕ)
    : Type 0 where
  pub whole : IsWhole pool
  pub scheduled : AreScheduled runs waits
  pub used : (protocol : Protocol) (port : ℕ) → use_of pool protocol port
      ≡ use_told waits (spot protocol port) (port_run runs protocol port)

-- each run's phase began by m
abbrev pub HaveBegun : ℕ → List (Run End) → FinMap nat_cmp ℕ → Type 0
HaveBegun m runs waits =
    (at : ℕ) → IfSome (run_at runs at) (λ r. since (phase_by waits r) r.value.end ≤ m)

-- each run's phase is that at m
abbrev pub AreSettled : ℕ → List (Run End) → FinMap nat_cmp ℕ → Type 0
AreSettled m runs waits =
    (at : ℕ) → IfSome (run_at runs at) (λ r. phase_by waits r ≡ phase_at m r.value.end)

-- a range and a quota, no phase that is to come yet at the moment reached, and none that was over
-- by the one before it by which all that fell due is seen to
pub record IsKept (low high quota settled reached : ℕ) (runs : List (Run End)) (pool : Holdings)
    (waits : FinMap nat_cmp ℕ) : Type 0 where
  pub on : IsOn pool low high quota
  pub in_step : AreInStep runs pool waits
  pub begun : HaveBegun reached runs waits
  pub order : settled ≤ reached
  pub late : NoneDue settled waits
