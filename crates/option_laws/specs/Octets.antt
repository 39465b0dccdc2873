-- What is written is of octets where its fields are, and what is read of octets has such fields (RFC 6887, section 7).
use Rattle.std.specs.Prelude.{◌≡◌, ◌<◌, ℕ, List, Some, ⊤}
use Rattle.std.specs.List.{AllByRecursion}
use Rattle.pcp_base.specs.declared.addresses.Address.{Address}
use Rattle.pcp_base.specs.declared.asks.Ask.{Ask}
use Rattle.pcp_base.specs.declared.asks.Refusal.{Refusal}
use Rattle.pcp_base.specs.declared.configs.Config.{Config}
use Rattle.pcp_codec.specs.declared.requests.Common.{Common}
use Rattle.pcp_codec.specs.declared.requests.Body.{Body}
use Rattle.pcp_codec.specs.declared.requests.Body.TheVariants.{Announce, Map, Peer}
use Rattle.pcp_codec.specs.Replies.{refusal_text}
use Rattle.pcp_codec.specs.Requests.{body_of}
use Rattle.pcp_options.specs.declared.options.Item.{Item}
use Rattle.pcp_options.specs.declared.options.Item.TheVariants.{ThirdParty, PreferFailure, Filter, PortSet}
use Rattle.pcp_options.specs.declared.responses.Response.{Response}
use Rattle.pcp_options.specs.declared.verdicts.Verdict.TheVariants.{Asked}
use Rattle.pcp_options.specs.ReadResponses.{response_of}
use Rattle.pcp_options.specs.Replies.{success_text}
use Rattle.pcp_options.specs.Requests.{request_with}
use Rattle.pcp_options.specs.Responses.{AreOctets}
use Rattle.pcp_options.specs.Verdicts.{verdict_of}

-- the nonce, the protocol and the addresses of a body are of octets; its other numbers are written in octets, whatever
-- they are
abbrev pub OctetsCommon : Common → Type 0
OctetsCommon c = AreOctets c.nonce.0 × (c.protocol < 256) × AreOctets c.address.0

abbrev pub OctetsBody : Body → Type 0
OctetsBody Announce = ⊤
OctetsBody (Map c) = OctetsCommon c
OctetsBody (Peer c port remote) = OctetsCommon c × AreOctets remote.0

-- so are the addresses and the prefix of an option
abbrev pub OctetsItem : Item → Type 0
OctetsItem (ThirdParty a) = AreOctets a.0
OctetsItem PreferFailure = ⊤
OctetsItem (Filter f) = (f.prefix < 256) × AreOctets f.remote.0
OctetsItem (PortSet set) = ⊤

-- ---- what is written

abbrev pub RequestsAreOctets : Type 0
RequestsAreOctets = (own : Address) (lifetime : ℕ) (body : Body) (items : List Item)
    → AreOctets own.0 → OctetsBody body → AllByRecursion OctetsItem items
    → AreOctets (request_with own lifetime body items)

abbrev pub SuccessesAreOctets : Type 0
SuccessesAreOctets = (lifetime epoch : ℕ) (body : Body) (items : List Item)
    → OctetsBody body → AllByRecursion OctetsItem items
    → AreOctets (success_text lifetime epoch body items)

abbrev pub RefusalsAreOctets : Type 0
RefusalsAreOctets = (request : List ℕ) (refusal : Refusal) (epoch : ℕ)
    → AreOctets request → AreOctets (refusal_text request refusal epoch)

-- ---- what is read

abbrev pub OctetsAreRead : Type 0
OctetsAreRead = (message : List ℕ) (r : Response)
    → AreOctets message → response_of message ≡ Some r
    → OctetsBody r.body × AllByRecursion OctetsItem r.items

abbrev pub OctetsAreAsked : Type 0
OctetsAreAsked = (config : Config) (source : Address) (message : List ℕ) (place : ℕ) (ask : Ask)
    (items : List Item)
    → AreOctets message → verdict_of config source message ≡ Asked place ask items
    → OctetsBody (body_of message) × AllByRecursion OctetsItem items
