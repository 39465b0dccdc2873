-- How ports are chosen for a MAP request that no live lease covers (for private contracts alone).
use Rattle.std.specs.Prelude.{ℕ, ◌&&◌, nat_le, not, [], Option, Some, None, Result, Ok, Err, if◌then◌else◌}
use Rattle.std.specs.Option.{ok_or}
use Rattle.pcp_base.specs.declared.codes.Code.{Code}
use Rattle.pcp_base.specs.declared.codes.Code.TheVariants.{NoResources, UserExQuota, CannotProvideExternal, ExcessiveRemotePeers}
use Rattle.pcp_base.specs.declared.asks.MapAsk.{MapAsk}
use Rattle.pcp_base.specs.Owners.{owned}
use Rattle.pcp_base.specs.States.{State}
use Rattle.external_pool.specs.declared.asks.PickAsk.{PickAsk}
use Rattle.external_pool.specs.declared.asks.Picked.{Picked}
use Rattle.external_pool.specs.declared.asks.PickRefused.{PickRefused}
use Rattle.lease_store.specs.declared.terms.Terms.{Terms}
use Rattle.lease_store.specs.Lookups.{named_port}
use Rattle.lease_store.specs.Picks.{pick}
use Rattle.lease_core.specs.declared.decided.Decided.{Decided}
use Rattle.lease_core.specs.Answers.{code_of, refused, is_full, is_address_met}
use Rattle.lease_core.specs.DecideMap.{size_asked, parity_asked, room_inside, room_for, is_wanted, has_excess, mapped, new_lease}

-- the refusal of a pool by its code
abbrev pub coded : Result Picked PickRefused → Result Picked Code
coded (Ok run) = Ok run
coded (Err cause) = Err (code_of cause)

-- what a pool is asked for
abbrev pub pick_ask : Terms → State → ℕ → MapAsk → PickAsk
pick_ask terms s m ask = record {
  internal = ask.endpoint.port;
  suggested = ask.port;
  asked = size_asked ask;
  room = room_inside s m ask;
  parity = parity_asked ask;
  must = ask.prefer;
  here = is_address_met ask.address terms.external.address;
}

-- the choice, unless PREFER_FAILURE wants another or there is none
abbrev pub judged : Terms → MapAsk → Option Picked → Result Picked Code
judged terms ask choice =
    if ask.prefer && not (is_wanted terms ask choice) then Err CannotProvideExternal
    else ok_or choice NoResources

abbrev pub chosen_by : Option ℕ → Terms → State → ℕ → MapAsk → Result Picked Code
chosen_by (Some port) terms s m ask =
    judged terms ask (Some (record { start = port; count = 1 }))
chosen_by None terms s m ask =
    if nat_le terms.quota (owned s.table m ask.endpoint.address) then Err UserExQuota
    else judged terms ask
    (pick terms s m ask.endpoint ask.port (parity_asked ask) (room_for terms s m ask))

abbrev pub chosen : Terms → State → ℕ → MapAsk → Result Picked Code
chosen terms s m ask = chosen_by (named_port s.table m ask.endpoint) terms s m ask

-- a lease of the chosen ports, unless there is no room for it or it would have too many filters
abbrev pub granted_by : Terms → State → ℕ → MapAsk → Result Picked Code → Decided
granted_by terms s m ask (Err code) = refused code
granted_by terms s m ask (Ok run) =
    if is_full s.table m then refused NoResources
    else if has_excess [] ask then refused ExcessiveRemotePeers
    else mapped terms m ask (new_lease terms m ask run)
