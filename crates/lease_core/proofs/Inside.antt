-- Internal ports up to the next one in use.
use Rattle.std.proofs.Common.{◌≡◌, ℕ, zero, suc, ◌+◌, ◌-◌, ◌<◌, ◌≤◌, Bool, false, Option, Some, None, find, refl, subst, arith, inl, inr}
use Rattle.std.specs.Prelude.{min}
use Rattle.std.specs.List.{list_any, range_with_len}
use Rattle.std.proofs.lemmas.Bool.{cond_both, cases_lt, or_parts}
use Rattle.pcp_base.specs.declared.leases.Endpoint.{Endpoint}
use Rattle.pcp_base.specs.declared.leases.MapLease.{MapLease}
use Rattle.pcp_base.specs.declared.leases.PeerLease.{PeerLease}
use Rattle.pcp_base.specs.declared.asks.MapAsk.{MapAsk}
use Rattle.pcp_base.specs.declared.leases.TheConstants.{MOST_PORTS}
use Rattle.pcp_base.specs.Asks.{IsMapAsk}
use Rattle.pcp_base.specs.Tables.{Table, live, covers, names}
use Rattle.pcp_base.specs.States.{State}
use Rattle.pcp_base.proofs.Members.{All-IsIn, IsIn, any-none, find-none, IsIn-range}
use Rattle.lease_store.specs.Lookups.{is_taken_inside, next_inside, up_to_next, with_port}
use Rattle.lease_core.specs.DecideMap.{room_inside, size_asked}
use Rattle.lease_core.proofs.RoomLemmas.{room-few}

-- what comes before the first of a range that passes doesn't
before_first : (p : ℕ → Bool) (a n x y : ℕ) → find p (range_with_len a n) ≡ Some x → a ≤ y → y < x → p y ≡ false
before_first p a zero x y h low below = absurd cc
before_first p a (suc n) x y h low below =
    cond_both (p a) (Some a) (find p (range_with_len (a + 1) n)) (λ o. o ≡ Some x → p y ≡ false)
    (λ _ k. let e : a ≡ x = cc in absurd (omega arith))
    (λ not_here k. elim (cases_lt a y) [
      | inl after ↦ before_first p (a + 1) n x y k (omega arith) below
      | inr here ↦ (let e : a ≡ y = omega arith in subst (λ z. p z ≡ false) e not_here)
    ]) h

-- no port up to the next one is in use
before_next : (t : Table) (m : ℕ) (e : Endpoint) (next : Option ℕ) (room port : ℕ) → next_inside t m e ≡ next →
    e.port < port → port < e.port + up_to_next next e.port room → port ≤ 65535 → is_taken_inside t m e port ≡ false
unfolding next_inside
before_next t m e None room port h above below end =
    All-IsIn (λ x. is_taken_inside t m e x ≡ false) (range_with_len (e.port + 1) (65535 - e.port)) port
    (find-none (is_taken_inside t m e) (range_with_len (e.port + 1) (65535 - e.port)) h)
    (IsIn-range (e.port + 1) (65535 - e.port) port (omega arith) (omega arith))
before_next t m e (Some next) room port h above below end =
    before_first (is_taken_inside t m e) (e.port + 1) (65535 - e.port) next port h (omega arith) (omega arith)

-- no live lease covers or names a port within the room, past the first
pub record IsUnusedInside (t : Table) (m : ℕ) (e : Endpoint) : Type 0 where
  pub uncovered : (l : MapLease) → IsIn l (live t m).maps → covers l e ≡ false
  pub unnamed : (l : PeerLease) → IsIn l (live t m).peers → names l e ≡ false

pub unused_inside : (s : State) (m : ℕ) (ask : MapAsk) (port : ℕ) → IsMapAsk ask → ask.endpoint.port < port →
    port < ask.endpoint.port + room_inside s m ask → IsUnusedInside s.table m (with_port ask.endpoint port)
unused_inside s m ask port formed above below =
    let end = (room-few s m ask formed).1 in
    let free = before_next s.table m ask.endpoint (next_inside s.table m ask.endpoint)
    (min (size_asked ask) (min MOST_PORTS (65536 - ask.endpoint.port))) port refl above below (omega arith) in
    let both = or_parts (list_any (λ l. covers l (with_port ask.endpoint port)) (live s.table m).maps)
    (list_any (λ l. names l (with_port ask.endpoint port)) (live s.table m).peers) free in record {
      uncovered = λ x. All-IsIn (λ l. covers l (with_port ask.endpoint port) ≡ false) (live s.table m).maps x
          (any-none (λ l. covers l (with_port ask.endpoint port)) (live s.table m).maps both.0);
      unnamed = λ x. All-IsIn (λ l. names l (with_port ask.endpoint port) ≡ false) (live s.table m).peers x
          (any-none (λ l. names l (with_port ask.endpoint port)) (live s.table m).peers both.1);
    }
