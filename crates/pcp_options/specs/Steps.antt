-- The checks of the options of a request (RFC 6887, sections 7.3 and 13; their order is our own).
use Rattle.std.specs.Prelude.{ℕ, ◌==◌, ◌&&◌, ◌||◌, nat_lt, nat_le, not, Bool, true, false, List, [], ◌∷◌, ◌++◌, length, if◌then◌else◌}
use Rattle.std.specs.List.{list_any}
use Rattle.pcp_base.specs.declared.codes.Code.TheVariants.{MalformedOption, UnsuppOption}
use Rattle.pcp_base.specs.declared.asks.Refusal.{Refusal}
use Rattle.pcp_base.specs.Cases.{Case}
use Rattle.pcp_codec.specs.declared.requests.Body.{Body}
use Rattle.pcp_codec.specs.declared.requests.Body.TheVariants.{Announce, Map, Peer}
use Rattle.pcp_codec.specs.Fields.{octet, u16_at}
use Rattle.pcp_base.specs.Refusals.{unparsed}
use Rattle.pcp_options.specs.declared.layout.TheConstants.{THIRD_PARTY_CODE, PREFER_FAILURE_CODE, FILTER_CODE, PORT_SET_CODE, FIRST_OPTIONAL_CODE, THIRD_PARTY_OCTETS, PREFER_FAILURE_OCTETS, FILTER_OCTETS, LONGEST_PREFIX, PORT_SET_OCTETS, FILTER_PREFIX_PLACE, SET_SIZE_PLACE, SET_FIRST_PLACE}
use Rattle.pcp_options.specs.Options.{FoundOption}

-- whether a server must know the option, and doesn't
abbrev pub is_unknown : ℕ → Bool
is_unknown code =
    nat_lt code FIRST_OPTIONAL_CODE
    && not (code == THIRD_PARTY_CODE || code == PREFER_FAILURE_CODE || code == FILTER_CODE)

-- whether a server passes over the option
abbrev pub is_ignored : ℕ → Bool
is_ignored code = nat_le FIRST_OPTIONAL_CODE code && not (code == PORT_SET_CODE)

-- whether the option stands at most once
abbrev pub is_single : ℕ → Bool
is_single code = code == THIRD_PARTY_CODE || code == PREFER_FAILURE_CODE || code == PORT_SET_CODE

-- whether it stands again
abbrev pub is_again : List FoundOption → ℕ → Bool
is_again before code = is_single code && list_any (λ o. o.code == code) before

-- whether it has another length than the options of its code
abbrev pub has_another_length : FoundOption → Bool
has_another_length o = not (o.claimed ==
    (if o.code == THIRD_PARTY_CODE then THIRD_PARTY_OCTETS
    else if o.code == PREFER_FAILURE_CODE then PREFER_FAILURE_OCTETS
    else if o.code == FILTER_CODE then FILTER_OCTETS
    else PORT_SET_OCTETS))

-- THIRD_PARTY goes with MAP and PEER, the others with MAP alone (sections 13.1 to 13.3).
abbrev pub is_of_another_opcode : Body → ℕ → Bool
is_of_another_opcode Announce code = true
is_of_another_opcode (Map c) code = false
is_of_another_opcode (Peer c port remote) code = not (code == THIRD_PARTY_CODE)

-- A FILTER in a deletion, or of too many bits; a PORT_SET of no ports, or of others than those from the internal port
-- on. The options of other opcodes than MAP have no content that can be wrong.
abbrev pub is_wrong : ℕ → Body → FoundOption → Bool
is_wrong lifetime Announce o = false
is_wrong lifetime (Peer c port remote) o = false
is_wrong lifetime (Map c) o =
    if o.code == FILTER_CODE then lifetime == 0 || nat_lt LONGEST_PREFIX (octet o.content FILTER_PREFIX_PLACE)
    else if o.code == PORT_SET_CODE then
    u16_at o.content SET_SIZE_PLACE == 0 || not (u16_at o.content SET_FIRST_PLACE == c.internal)
    else false

-- the checks of an option that is known
abbrev pub known_steps : ℕ → Body → Bool → FoundOption → List (Case Refusal)
known_steps lifetime body again o =
    (record { applies = again; result = unparsed MalformedOption })
    ∷ (record { applies = has_another_length o; result = unparsed MalformedOption })
    ∷ (record { applies = is_of_another_opcode body o.code; result = unparsed MalformedOption })
    ∷ (record { applies = is_wrong lifetime body o; result = unparsed MalformedOption })
    ∷ []

-- the checks of one option, in order: whether its data runs past the end, whether it is known, and the others
abbrev pub option_steps : ℕ → Body → Bool → FoundOption → List (Case Refusal)
option_steps lifetime body again o =
    (record { applies = nat_lt (length o.content) o.claimed; result = unparsed MalformedOption })
    ∷ (record { applies = is_unknown o.code; result = unparsed UnsuppOption })
    ∷ (if is_ignored o.code then [] else known_steps lifetime body again o)

-- the checks of all options, in order, behind those before
abbrev pub steps_after : ℕ → Body → List FoundOption → List FoundOption → List (Case Refusal)
steps_after lifetime body before [] = []
steps_after lifetime body before (o ∷ os) =
    option_steps lifetime body (is_again before o.code) o ++ steps_after lifetime body (before ++ o ∷ []) os

abbrev pub options_steps : ℕ → Body → List FoundOption → List (Case Refusal)
options_steps lifetime body os = steps_after lifetime body [] os
