-- The laws of the ports of a state (our own).
use Rattle.std.specs.Prelude.{◌≡◌, ℕ, ◌≤◌, true, false, None, Result, find}
use Rattle.pcp_base.specs.Reached.{IsReached}
use Rattle.pcp_base.specs.declared.leases.Protocol.{Protocol}
use Rattle.pcp_base.specs.declared.leases.Endpoint.{Endpoint}
use Rattle.pcp_base.specs.States.{State, empty_state}
use Rattle.external_pool.specs.declared.asks.PickAsk.{PickAsk}
use Rattle.external_pool.specs.declared.asks.Picked.{Picked}
use Rattle.external_pool.specs.declared.asks.PickRefused.{PickRefused}
use Rattle.external_pool.specs.Asking.{IsPickAnswer}
use Rattle.external_pool.specs.Calls.{IsAsk}
use Rattle.external_pool.specs.Holdings.{Holdings, uses_of, use_of}
use Rattle.external_pool.specs.PoolOf.{IsPoolOf}
use Rattle.lease_store.specs.declared.terms.Terms.{Terms}
use Rattle.lease_store.specs.Picks.{pick_answer}
use Rattle.pcp_base.specs.declared.records.Record.{Record}
use Rattle.pcp_base.specs.Sound.{SoundState}
use Rattle.pcp_base.specs.Fits.{Fits}
use Rattle.pcp_base.specs.Apply.{empties, apply}
use Rattle.pcp_base.specs.Ends.{is_end_of}
use Rattle.leased_ports.specs.LastEnds.{last_end, come}
use Rattle.leased_ports.specs.Leased.{Leased, IsPortsOf, at_moment, end_of, fresh_ports, while_recent}
use Rattle.leased_ports.specs.Listed.{ends_come}
use Rattle.leased_ports.specs.Recorded.{end_after}
use Rattle.leased_ports.specs.Kept.{use_by}

-- the pool has the quota and the range of the terms
pub record IsPoolOnTerms (pool : Holdings) (terms : Terms) : Type 0 where
  pub quota : pool.quota ≡ terms.quota
  pub low : (protocol : Protocol) → (uses_of pool protocol).low ≡ terms.external.low
  pub high : (protocol : Protocol) → (uses_of pool protocol).high ≡ terms.external.high

-- The pool of a state picks the ports that are picked in the state.
abbrev pub PoolsPickForStates : Type 0
PoolsPickForStates = (pool : Holdings) (terms : Terms) (s : State) (m : ℕ) (e : Endpoint)
    (ask : PickAsk) (answer : Result Picked PickRefused) →
    IsPoolOf pool s m → IsPoolOnTerms pool terms → IsAsk ask → ask.internal ≡ e.port →
    IsPickAnswer pool e.address e.protocol ask answer → answer ≡ pick_answer terms s m e ask

-- Where each port is used by its last end, held until then and at rest behind it, the pool is that
-- of the state.
abbrev pub LastEndsTellPools : Type 0
LastEndsTellPools = (pool : Holdings) (s : State) (m : ℕ) → IsReached s → s.last ≤ m →
    ((protocol : Protocol) (port : ℕ) →
    use_of pool protocol port ≡ use_by m (last_end s m protocol port)) →
    IsPoolOf pool s m

-- no port of the empty state is held or rests
abbrev pub NewPortsAreFree : Type 0
NewPortsAreFree = (low high quota : ℕ) → IsPortsOf (fresh_ports low high quota) empty_state

-- the ports of a state at a later moment
abbrev pub PortsFollowMoments : Type 0
PortsFollowMoments = (v : Leased) (s : State) (m : ℕ) → v.reached ≤ m → IsPortsOf v s →
    IsPortsOf (at_moment m v) s

-- At each moment from its last one on they tell the last ends of the state.
abbrev pub PortsTellLastEnds : Type 0
PortsTellLastEnds = (v : Leased) (s : State) (m : ℕ) (protocol : Protocol) (port : ℕ) →
    SoundState s → IsPortsOf v s → s.last ≤ m →
    while_recent m (end_of v protocol port) ≡ last_end s m protocol port

-- after a record that doesn't forget all, the last end of each port is this
abbrev pub RecordsTellLastEnds : Type 0
RecordsTellLastEnds = (s : State) (r : Record) (protocol : Protocol) (port : ℕ) →
    IsReached s → Fits s r → empties r.change ≡ false →
    last_end (apply s r) r.moment protocol port ≡ end_after s r protocol port

-- after one that forgets all, none is held or rests
abbrev pub NothingIsKept : Type 0
NothingIsKept = (s : State) (r : Record) (protocol : Protocol) (port : ℕ) →
    empties r.change ≡ true → last_end (apply s r) r.moment protocol port ≡ None

-- Ports whose last ends are these, while they are recent, are those of the state after the record.
abbrev pub PortsFollowRecords : Type 0
PortsFollowRecords = (v : Leased) (s : State) (r : Record) → IsReached s → Fits s r →
    empties r.change ≡ false → r.moment ≤ v.reached →
    ((protocol : Protocol) (port : ℕ) →
    while_recent r.moment (end_of v protocol port) ≡ end_after s r protocol port) →
    IsPortsOf v (apply s r)

-- New ports at its moment are those of the state after a record that forgets all.
abbrev pub PortsBeginAnew : Type 0
PortsBeginAnew = (low high quota : ℕ) (s : State) (r : Record) → empties r.change ≡ true →
    IsPortsOf (at_moment r.moment (fresh_ports low high quota)) (apply s r)

-- The ends of a state are the last ends of ports that came by its last moment.
abbrev pub EndsAreLastEnds : Type 0
EndsAreLastEnds = (s : State) (protocol : Protocol) (port : ℕ) → IsReached s →
    find (is_end_of protocol port) s.ends ≡ come s.last (last_end s s.last protocol port)

-- They are told by its ports, in their order.
abbrev pub EndsAreTold : Type 0
EndsAreTold = (v : Leased) (s : State) → IsReached s → IsPortsOf v s →
    s.ends ≡ ends_come s.last v
