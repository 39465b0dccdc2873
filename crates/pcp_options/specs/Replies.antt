-- The reply to a request (RFC 6887, sections 7.2, 11.1, 12.1, 13 and 14.1; its details are our own).
use Rattle.std.specs.Prelude.{ℕ, List, [], ◌∷◌, ◌++◌, map, replicate, filter_map, option_map, Option, Some, None, ◌≡◌}
use Rattle.std.specs.Int.{to_be_bytes, w16}
use Rattle.pcp_base.specs.declared.addresses.Address.{Address}
use Rattle.pcp_base.specs.declared.asks.PortSet as Sets
use Rattle.pcp_base.specs.declared.asks.Ask.{Ask}
use Rattle.pcp_base.specs.declared.asks.Answer.{Answer}
use Rattle.pcp_base.specs.declared.asks.Answer.TheVariants.{Refused, Announced, Gone, Mapped, Peered}
use Rattle.pcp_base.specs.declared.configs.Config.{Config}
use Rattle.pcp_codec.specs.declared.layout.TheConstants.{ANNOUNCE_OPCODE, MAP_OPCODE, PEER_OPCODE}
use Rattle.pcp_codec.specs.declared.requests.Common.{Common}
use Rattle.pcp_codec.specs.declared.requests.Body.{Body}
use Rattle.pcp_codec.specs.declared.requests.Body.TheVariants.{Announce, Map, Peer}
use Rattle.pcp_codec.specs.Requests.{body_of}
use Rattle.pcp_codec.specs.Replies.{head, refusal_text}
use Rattle.pcp_options.specs.declared.options.Item.{Item}
use Rattle.pcp_options.specs.declared.options.Item.TheVariants.{PortSet}
use Rattle.pcp_options.specs.declared.verdicts.Verdict.TheVariants.{Asked}
use Rattle.pcp_options.specs.Options.{option_text, options_text, option_of}
use Rattle.pcp_options.specs.Verdicts.{verdict_of}

abbrev pub opcode_of_body : Body → ℕ
opcode_of_body Announce = ANNOUNCE_OPCODE
opcode_of_body (Map c) = MAP_OPCODE
opcode_of_body (Peer c port remote) = PEER_OPCODE

-- the data that MAP and PEER share, as it is written: its reserved octets are zero
abbrev pub common_text : Common → List ℕ
common_text c =
    c.nonce.0 ++ c.protocol ∷ 0 ∷ 0 ∷ 0 ∷ to_be_bytes w16 c.internal ++ to_be_bytes w16 c.external
    ++ c.address.0

-- what PEER has behind it
abbrev pub remote_text : ℕ → Address → List ℕ
remote_text port remote = to_be_bytes w16 port ++ 0 ∷ 0 ∷ remote.0

-- the data of an opcode, as it is written
abbrev pub body_text : Body → List ℕ
body_text Announce = []
body_text (Map c) = common_text c
body_text (Peer c port remote) = common_text c ++ remote_text port remote

-- a success: a head with code 0 whose last 12 octets are zero, the data of the opcode, and the options
abbrev pub success_text : ℕ → ℕ → Body → List Item → List ℕ
success_text lifetime epoch body items =
    head (opcode_of_body body) 0 lifetime epoch (replicate 12 0) ++ body_text body
    ++ options_text (map option_of items)

-- the data with the external port and address that are assigned
abbrev pub assigned_common : Common → ℕ → Address → Common
assigned_common c external address = record c { external = external; address = address }

abbrev pub assigned : Body → ℕ → Address → Body
assigned Announce external address = Announce
assigned (Map c) external address = Map (assigned_common c external address)
assigned (Peer c port remote) external address = Peer (assigned_common c external address) port remote

-- An option in a success: PORT_SET tells the ports of the lease, or is left out; the others are repeated.
abbrev pub told_item : Option Sets.PortSet → Item → Option Item
told_item set (PortSet asked) = option_map PortSet set
told_item set item = Some item

-- the options of a success, in the order of the request
abbrev pub told_items : Option Sets.PortSet → List Item → List Item
told_items set items = filter_map (told_item set) items

-- the text of one of them
abbrev pub told_option : Option Item → List ℕ
told_option None = []
told_option (Some item) = option_text (option_of item)

abbrev pub told_text : Option Sets.PortSet → Item → List ℕ
told_text set item = told_option (told_item set item)

-- The reply. A deletion repeats the suggestion of the request, and has no PORT_SET.
abbrev pub reply_text : List ℕ → List Item → Answer → ℕ → List ℕ
reply_text message items (Refused refusal) epoch = refusal_text message refusal epoch
reply_text message items Announced epoch = success_text 0 epoch Announce []
reply_text message items Gone epoch = success_text 0 epoch (body_of message) (told_items None items)
reply_text message items (Mapped lifetime external address set) epoch =
    success_text lifetime epoch (assigned (body_of message) external address) (told_items set items)
reply_text message items (Peered lifetime external address) epoch =
    success_text lifetime epoch (assigned (body_of message) external address) (told_items None items)

-- the request was judged, and asks this with these options
abbrev pub IsJudged : List ℕ → Ask → List Item → Type 0
IsJudged message ask items =
    (config : Config) × (source : Address) × (place : ℕ)
    × (verdict_of config source message ≡ Asked place ask items)
