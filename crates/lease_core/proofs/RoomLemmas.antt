-- How many ports may be given, and that the port of a covered endpoint is one.
use Rattle.std.proofs.Common.{◌≡◌, ℕ, ◌+◌, ◌-◌, ◌<◌, ◌≤◌, true, Option, Some, None, filter, refl, arith}
use Rattle.std.specs.Prelude.{min, nat_lt, IfSome}
use Rattle.std.specs.List.{range_with_len}
use Rattle.std.specs.Option.{option_map_or}
use Rattle.pcp_base.specs.declared.asks.PortSet.{PortSet}
use Rattle.pcp_base.specs.declared.asks.MapAsk.{MapAsk}
use Rattle.pcp_base.specs.declared.leases.TheConstants.{MOST_PORTS}
use Rattle.pcp_base.specs.declared.leases.Endpoint.{Endpoint}
use Rattle.pcp_base.specs.declared.leases.MapLease.{MapLease}
use Rattle.pcp_base.specs.Asks.{IsMapAsk}
use Rattle.pcp_base.specs.Tables.{Table, IsMapLease, covers}
use Rattle.pcp_base.specs.States.{State}
use Rattle.pcp_base.specs.Reached.{IsReached}
use Rattle.pcp_base.proofs.Members.{All-IsIn, IsIn, IsIn-filter, find-some, range-IsIn}
use Rattle.pcp_base.proofs.TableLemmas.{IsCovered-from_covers}
use Rattle.external_pool.specs.Calls.{IsAsk}
use Rattle.lease_store.specs.declared.terms.Terms.{Terms}
use Rattle.lease_store.specs.Lookups.{covering, is_taken_inside, next_inside, up_to_next}
use Rattle.lease_core.specs.DecideMap.{room_inside, size_asked}
use Rattle.lease_core.specs.Chosen.{pick_ask}

pub next-above : (t : Table) (m : ℕ) (e : Endpoint) (next : ℕ) → next_inside t m e ≡ Some next → e.port < next
unfolding next_inside
next-above t m e next h =
    let r = range-IsIn (e.port + 1) (65535 - e.port) next
    (find-some (is_taken_inside t m e) (range_with_len (e.port + 1) (65535 - e.port)) next h).0 in
    let low = r.0 in omega arith

size-some : (set : Option PortSet) (port : ℕ) → IfSome set (λ set. (0 < set.size) × (set.first ≡ port)) →
    1 ≤ option_map_or (λ set. set.size) set 1
size-some None port h = omega arith
size-some (Some set) port h = let some = h.0 in omega arith

up_to-some : (next : Option ℕ) (i room : ℕ) → 1 ≤ room → ((x : ℕ) → next ≡ Some x → i < x) → 1 ≤ up_to_next next i room
up_to-some None i room some above = some
up_to-some (Some x) i room some above = let h : i < x = above x refl in omega arith

up_to-few : (next : Option ℕ) (i room : ℕ) → up_to_next next i room ≤ room
up_to-few None i room = omega arith
up_to-few (Some x) i room = omega arith

pub room-some : (s : State) (m : ℕ) (ask : MapAsk) → IsMapAsk ask → 1 ≤ room_inside s m ask
room-some s m ask formed =
    let size : 1 ≤ size_asked ask = size-some ask.set ask.endpoint.port formed.set in
    let below : ask.endpoint.port ≤ 65535 = formed.internal.below in
    up_to-some (next_inside s.table m ask.endpoint) ask.endpoint.port
    (min (size_asked ask) (min MOST_PORTS (65536 - ask.endpoint.port))) (omega arith)
    (next-above s.table m ask.endpoint)

-- a room is at most that of a set of ports, and ends with the last internal port
pub room-few : (s : State) (m : ℕ) (ask : MapAsk) → IsMapAsk ask →
    (room_inside s m ask ≤ 4096) × (ask.endpoint.port + room_inside s m ask ≤ 65536)
room-few s m ask formed =
    let few : room_inside s m ask ≤ min (size_asked ask) (min MOST_PORTS (65536 - ask.endpoint.port)) =
    up_to-few (next_inside s.table m ask.endpoint) ask.endpoint.port
    (min (size_asked ask) (min MOST_PORTS (65536 - ask.endpoint.port))) in
    let below : ask.endpoint.port ≤ 65535 = formed.internal.below in
    (omega arith, omega arith)

-- one port has room
pub room-one : (s : State) (m : ℕ) (ask : MapAsk) → IsMapAsk ask → min (size_asked ask) MOST_PORTS ≡ 1 →
    1 ≡ room_inside s m ask
room-one s m ask formed one =
    let some = room-some s m ask formed in
    let few : room_inside s m ask ≤ min (size_asked ask) (min MOST_PORTS (65536 - ask.endpoint.port)) =
    up_to-few (next_inside s.table m ask.endpoint) ask.endpoint.port
    (min (size_asked ask) (min MOST_PORTS (65536 - ask.endpoint.port))) in omega arith

pub may_ask : (terms : Terms) (s : State) (m : ℕ) (ask : MapAsk) → IsMapAsk ask → IsAsk (pick_ask terms s m ask)
may_ask terms s m ask formed = record {
  room = room-some s m ask formed;
  asked = size-some ask.set ask.endpoint.port formed.set;
}

-- a covering lease is one of the table
pub covering-IsIn : (t : Table) (m : ℕ) (e : Endpoint) (lease : MapLease) → covering t m e ≡ Some lease →
    IsIn lease t.maps × (covers lease e ≡ true)
covering-IsIn t m e lease h =
    let found = find-some (λ l. covers l e) (filter (λ l. nat_lt m l.expiry) t.maps) lease h in
    ((IsIn-filter (λ l. nat_lt m l.expiry) t.maps lease found.0).0, found.1)

within : (lease : MapLease) (e : Endpoint) → IsMapLease lease → covers lease e ≡ true →
    lease.external + (e.port - lease.internal) < 65536
within lease e formed h =
    let c = IsCovered-from_covers lease e h in
    let from = c.from in let below = c.below in let end = formed.ports.external_end in omega arith

-- the endpoint of a covering lease has an external port
pub own_port-fits : (s : State) (m : ℕ) (e : Endpoint) (lease : MapLease) → IsReached s →
    covering s.table m e ≡ Some lease → lease.external + (e.port - lease.internal) < 65536
own_port-fits s m e lease reached h =
    let c = covering-IsIn s.table m e lease h in
    within lease e (All-IsIn IsMapLease s.table.maps lease reached.sound.table.maps c.0) c.1
