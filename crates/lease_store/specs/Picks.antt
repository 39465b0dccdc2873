-- Which ports are picked in a state (our own).
use Rattle.std.specs.Prelude.{ℕ, zero, suc, ◌+◌, ◌-◌, ◌%◌, ◌&&◌, ◌==◌, nat_le, min, not, Bool, true, find, Option, Some, None, is_none, Result, Err, if◌then◌else◌}
use Rattle.std.specs.List.{list_any, list_all, range_with_len}
use Rattle.std.specs.Option.{option_map, option_or}
use Rattle.pcp_base.specs.declared.leases.Protocol.{Protocol}
use Rattle.pcp_base.specs.declared.leases.Endpoint.{Endpoint}
use Rattle.pcp_base.specs.Tables.{live, same_endpoint}
use Rattle.pcp_base.specs.Owners.{owners, is_owned, owned}
use Rattle.pcp_base.specs.Ends.{is_end_of, resting, rests}
use Rattle.pcp_base.specs.States.{State}
use Rattle.external_pool.specs.PortUses.{is_in_range}
use Rattle.external_pool.specs.Asking.{answer_to}
use Rattle.external_pool.specs.declared.asks.PickAsk.{PickAsk}
use Rattle.external_pool.specs.declared.asks.Picked.{Picked}
use Rattle.external_pool.specs.declared.asks.PickRefused.{PickRefused}
use Rattle.external_pool.specs.declared.asks.PickRefused.TheVariants.{Quota}
use Rattle.lease_store.specs.declared.terms.Terms.{Terms}
use Rattle.lease_store.specs.Lookups.{with_port}

-- whether an ask is plain: for one port, of any parity
abbrev pub is_plain : PickAsk → Bool
is_plain ask = ask.room == 1 && is_none ask.parity

-- whether the port is in the range, and no live lease of its protocol owns it
abbrev pub is_unowned_at : Terms → State → ℕ → Protocol → ℕ → Bool
is_unowned_at terms s m protocol port = is_in_range terms.external.low terms.external.high port
    && not (is_owned protocol port (owners (live s.table m)))

-- A port is vacant where it is in the range, no live lease owns it, and it rests for no endpoint.
abbrev pub is_vacant_at : Terms → State → ℕ → Protocol → ℕ → Bool
is_vacant_at terms s m protocol port =
    is_unowned_at terms s m protocol port && not (rests s m protocol port)

-- whether the port of the endpoint's protocol rests for another endpoint
abbrev pub rests_for_another : State → ℕ → ℕ → Endpoint → Bool
rests_for_another s m port e =
    list_any (λ x. is_end_of e.protocol port x && not (same_endpoint x.endpoint e)) (resting s m)

-- A port is open to an endpoint where it is in the range, no live lease owns it, and it rests for
-- no other endpoint.
abbrev pub is_open_at : Terms → State → ℕ → Endpoint → ℕ → Bool
is_open_at terms s m e port =
    is_unowned_at terms s m e.protocol port && not (rests_for_another s m port e)

-- whether the number has the remainder by 2 that is asked, if one is
abbrev pub has_parity : Option ℕ → ℕ → Bool
has_parity None n = true
has_parity (Some remainder) n = n % 2 == remainder

-- whether the i-th port from start on is open to the i-th endpoint from e on
abbrev pub is_open_from : Terms → State → ℕ → Endpoint → ℕ → ℕ → Bool
is_open_from terms s m e start i = is_open_at terms s m (with_port e (e.port + i)) (start + i)

-- each of the n ports from start on is open to the endpoint that it would be given to, and start
-- meets the parity asked
abbrev pub goes_back : Terms → State → ℕ → Endpoint → Option ℕ → ℕ → ℕ → Bool
goes_back terms s m e parity start n = has_parity parity start
    && list_all (is_open_from terms s m e start) (range_with_len 0 n)

-- the n ports from start on are vacant, and start meets the parity asked
abbrev pub is_vacant_run : Terms → State → ℕ → Protocol → Option ℕ → ℕ → ℕ → Bool
is_vacant_run terms s m protocol parity n start = has_parity parity start
    && list_all (is_vacant_at terms s m protocol) (range_with_len start n)

-- the least start of the range from which n ports are vacant
abbrev pub first_vacant : Terms → State → ℕ → Protocol → Option ℕ → ℕ → Option ℕ
first_vacant terms s m protocol parity n = find (is_vacant_run terms s m protocol parity n)
    (range_with_len terms.external.low (terms.external.high + 1 - terms.external.low))

abbrev pub run_of : ℕ → ℕ → Picked
run_of count start = record { start = start; count = count }

-- the greatest number of ports, from 1 to room, that are vacant in a row from some start that meets
-- the parity asked, and the least such start
abbrev pub longest_run : Terms → State → ℕ → Protocol → Option ℕ → ℕ → Option Picked
longest_run terms s m protocol parity zero = None
longest_run terms s m protocol parity (suc n) = option_or
    (option_map (run_of (suc n)) (first_vacant terms s m protocol parity (suc n)))
    (longest_run terms s m protocol parity n)

-- the suggested ports, where one is suggested and they can go back; else the longest vacant run
unfoldable pub pick : Terms → State → ℕ → Endpoint → ℕ → Option ℕ → ℕ → Option Picked
pick terms s m e suggested parity room =
    if not (suggested == 0) && goes_back terms s m e parity suggested room
    then Some (run_of room suggested)
    else longest_run terms s m e.protocol parity room

-- the pick with the room that the quota leaves
abbrev pub pick_for : Terms → State → ℕ → Endpoint → PickAsk → Option Picked
pick_for terms s m e ask = pick terms s m e ask.suggested ask.parity
    (min ask.room (terms.quota - owned s.table m e.address))

-- What is answered to an ask for ports, of which the first would go to the endpoint: an address
-- that owns its quota gets none, and any other the pick.
abbrev pub pick_answer : Terms → State → ℕ → Endpoint → PickAsk → Result Picked PickRefused
pick_answer terms s m e ask =
    if nat_le terms.quota (owned s.table m e.address) then Err (Quota (owned s.table m e.address))
    else answer_to ask (pick_for terms s m e ask)
