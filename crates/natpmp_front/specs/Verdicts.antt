-- What a datagram of this protocol asks for (RFC 6886, section 3.5; what is refused, and in which order, is our
-- own).
use Rattle.std.specs.Prelude.{ℕ, ◌==◌, ◌&&◌, ◌||◌, nat_lt, not, Bool, false, List, [], ◌∷◌, Option, Some, None, is_none, unwrap_or, slice_get, if◌then◌else◌}
use Rattle.pcp_base.specs.declared.addresses.Address.{Address}
use Rattle.pcp_base.specs.declared.codes.Code.TheVariants.{NotAuthorized, UnsuppOpcode, NetworkFailure}
use Rattle.pcp_base.specs.declared.asks.Refusal.{Refusal}
use Rattle.pcp_base.specs.declared.asks.Ask.{Ask}
use Rattle.pcp_base.specs.declared.asks.Ask.TheVariants.{Known}
use Rattle.pcp_base.specs.declared.configs.External.{External}
use Rattle.pcp_base.specs.declared.configs.Config.{Config}
use Rattle.pcp_base.specs.Cases.{Case, first_case}
use Rattle.pcp_base.specs.Pairing.{place_of}
use Rattle.pcp_base.specs.Refusals.{parsed}
use Rattle.natpmp_front.specs.declared.layout.TheConstants.{ADDRESS_OPERATION, MAP_TCP_OPERATION, INTERNAL_PLACE}
use Rattle.natpmp_front.specs.declared.requests.Front.{Front}
use Rattle.natpmp_front.specs.declared.requests.Front.TheVariants.{Silent, Asked}
use Rattle.natpmp_front.specs.Fields.{u16_at}
use Rattle.natpmp_front.specs.Requests.{operation_of, is_of_map, is_silent, is_v4, asked}

-- whether the external address of this index is an IPv4 address
abbrev pub is_v4_external : Option External → Bool
is_v4_external None = false
is_v4_external (Some external) = is_v4 external.address

abbrev pub has_v4_external : Config → Option ℕ → Bool
has_v4_external config None = false
has_v4_external config (Some place) = is_v4_external (slice_get config.externals place)

-- the steps that refuse a request, in order, where the source's external address has this index: an operation that
-- isn't known, a source that is no subscriber's or has no IPv4 address, no IPv4 address to tell, internal port 0
abbrev pub refusal_steps : Config → Address → Option ℕ → List ℕ → List (Case Refusal)
refusal_steps config source place message =
    (record {
      applies = nat_lt MAP_TCP_OPERATION (operation_of message);
      result = parsed UnsuppOpcode;
    })
    ∷ (record { applies = is_none place || not (is_v4 source); result = parsed NotAuthorized })
    ∷ (record {
      applies = operation_of message == ADDRESS_OPERATION && not (has_v4_external config place);
      result = parsed NetworkFailure;
    })
    ∷ (record {
      applies = is_of_map message && u16_at message INTERNAL_PLACE == 0;
      result = parsed NotAuthorized;
    })
    ∷ []

-- what is asked for, unless a step refuses the request
abbrev pub ask_by : Address → List ℕ → Option Refusal → Ask
ask_by source message (Some refusal) = Known refusal
ask_by source message None = asked source message

-- a request to the lease table of this index, or of the first where there is none
abbrev pub front_by : Config → Address → Option ℕ → List ℕ → Front
front_by config source place message =
    Asked (unwrap_or place 0)
    (ask_by source message (first_case (refusal_steps config source place message)))

-- what a datagram is
abbrev pub front_of : Config → Address → List ℕ → Front
front_of config source message =
    if is_silent message then Silent
    else front_by config source (place_of config.subscribers source) message
