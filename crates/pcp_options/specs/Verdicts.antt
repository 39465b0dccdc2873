-- The verdict on a datagram (RFC 6887, section 8.2; the order of its steps is our own).
use Rattle.std.specs.Prelude.{◌≡◌, ℕ, not, bytes_eq, List, [], ◌∷◌, ◌++◌, drop, Option, Some, None, Result, Ok, Err, if◌then◌else◌, ⊤}
use Rattle.std.specs.List.{list_any}
use Rattle.pcp_base.specs.declared.addresses.Address.{Address}
use Rattle.pcp_base.specs.declared.codes.Code.{Code}
use Rattle.pcp_base.specs.declared.codes.Code.TheVariants.{MalformedRequest, UnsuppOption, NotAuthorized}
use Rattle.pcp_base.specs.declared.asks.Refusal.{Refusal}
use Rattle.pcp_base.specs.declared.asks.Ask.{Ask}
use Rattle.pcp_base.specs.declared.configs.Config.{Config}
use Rattle.pcp_base.specs.Cases.{Case, first_case}
use Rattle.pcp_base.specs.Refusals.{parsed}
use Rattle.pcp_base.specs.Pairing.{holds, place_of}
use Rattle.pcp_codec.specs.declared.requests.Frame.{Frame}
use Rattle.pcp_codec.specs.declared.requests.Framed.TheVariants as Framed
use Rattle.pcp_codec.specs.Framing.{frame_steps, is_silent, reading_of}
use Rattle.pcp_codec.specs.Requests.{frame_of}
use Rattle.pcp_options.specs.declared.options.Item.{Item}
use Rattle.pcp_options.specs.declared.verdicts.Verdict.{Verdict}
use Rattle.pcp_options.specs.declared.verdicts.Verdict.TheVariants.{Silent, Refuse, Asked}
use Rattle.pcp_options.specs.Options.{FoundOption, found_in, items_of}
use Rattle.pcp_options.specs.Steps.{options_steps}
use Rattle.pcp_options.specs.Asking.{third_of, subject_of, ask_of}

-- the frame that was read of the message
abbrev pub IsFrameOf : Frame → List ℕ → Type 0
IsFrameOf frame message = (source : Address) × (reading_of message source ≡ Framed.Whole frame)

-- the octets behind the data of the opcode
abbrev pub behind_data : Frame → List ℕ → List ℕ
behind_data frame message = drop frame.options message

-- the options that stand there
abbrev pub options_in : Frame → List ℕ → List FoundOption
options_in frame message = found_in (behind_data frame message)

-- THIRD_PARTY from a host that may not use it, or that names itself (section 13.1)
abbrev pub third_steps : Config → Address → Option Address → List (Case Refusal)
third_steps config source None = []
third_steps config source (Some third) =
    (record { applies = not (list_any (λ p. holds p source) config.third_party); result = parsed UnsuppOption })
    ∷ (record { applies = bytes_eq third.0 source.0; result = parsed MalformedRequest })
    ∷ []

-- the steps of its options, and of THIRD_PARTY
abbrev pub later_steps : Config → Address → Frame → List FoundOption → List (Case Refusal)
later_steps config source frame os =
    options_steps frame.lifetime frame.body os ++ third_steps config source (third_of (items_of os))

-- the steps that refuse a request before it is known what it asks for, in order
abbrev pub request_steps : Config → Address → List ℕ → List (Case Refusal)
request_steps config source message =
    frame_steps message source
    ++ later_steps config source (frame_of message) (options_in (frame_of message) message)

-- what can't be asked for, then an address without a subscriber row, else the ask
abbrev pub asked_by : List Item → Result Ask Code → Option ℕ → Verdict
asked_by items (Err code) place = Refuse (parsed code)
asked_by items (Ok ask) None = Refuse (parsed NotAuthorized)
asked_by items (Ok ask) (Some place) = Asked place ask items

abbrev pub asked_for : Config → Frame → List Item → Address → Verdict
asked_for config frame items address =
    asked_by items (ask_of address frame items) (place_of config.subscribers address)

abbrev pub verdict_by : Config → Address → Frame → List Item → Option Refusal → Verdict
verdict_by config source frame items (Some refusal) = Refuse refusal
verdict_by config source frame items None = asked_for config frame items (subject_of source (third_of items))

unfoldable pub verdict_of : Config → Address → List ℕ → Verdict
verdict_of config source message =
    if is_silent message then Silent
    else verdict_by config source (frame_of message) (items_of (options_in (frame_of message) message))
    (first_case (request_steps config source message))

-- the verdict is an ask
abbrev pub IsAsked : Verdict → Type 0
IsAsked Silent = ⊥
IsAsked (Refuse refusal) = ⊥
IsAsked (Asked place ask items) = ⊤
