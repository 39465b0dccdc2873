-- The reply that grants a lease is read as it was written (RFC 6887, sections 11.1 and 12.1).
use Rattle.std.specs.Prelude.{◌≡◌, ◌<◌, ◌%◌, ◌^◌, ℕ, List, Option, Some, length}
use Rattle.pcp_base.specs.declared.addresses.Address.{Address}
use Rattle.pcp_base.specs.declared.asks.Answer.TheVariants.{Mapped, Peered}
use Rattle.pcp_base.specs.declared.asks.Ask.{Ask}
use Rattle.pcp_base.specs.declared.asks.PortSet.{PortSet}
use Rattle.pcp_base.specs.declared.codes.Code.TheVariants.{Success}
use Rattle.pcp_base.specs.declared.configs.Config.{Config}
use Rattle.pcp_codec.specs.Requests.{body_of}
use Rattle.pcp_options.specs.declared.options.Item.{Item}
use Rattle.pcp_options.specs.declared.responses.Response.{Response}
use Rattle.pcp_options.specs.declared.verdicts.Verdict.TheVariants.{Asked}
use Rattle.pcp_options.specs.Asking.{third_of}
use Rattle.pcp_options.specs.ReadResponses.{response_of}
use Rattle.pcp_options.specs.Replies.{assigned, reply_text}
use Rattle.pcp_options.specs.Responses.{AreOctets}
use Rattle.pcp_options.specs.Verdicts.{verdict_of}

-- the text is a success for the request: with this lifetime, its data, the external port as 16 bits have it, this
-- address, and its THIRD_PARTY
pub record TellsGrant (message : List ℕ) (items : List Item) (lifetime external : ℕ)
    (address : Address) (text : List ℕ) : Type 0 where
  pub response : Response
  pub read : response_of text ≡ Some response
  pub success : response.code ≡ Success
  pub lifetime_is : response.lifetime ≡ lifetime
  pub body : response.body ≡ assigned (body_of message) (external % 2 ^ 16) address
  pub third : third_of response.items ≡ third_of items

abbrev pub MapGrantsAreRead : Type 0
MapGrantsAreRead = (config : Config) (source : Address) (message : List ℕ) (place : ℕ) (ask : Ask)
    (items : List Item) (lifetime external : ℕ) (address : Address) (set : Option PortSet)
    (epoch : ℕ)
    → AreOctets message → verdict_of config source message ≡ Asked place ask items
    → lifetime < 2 ^ 32 → epoch < 2 ^ 32 → length address.0 ≡ 16
    → TellsGrant message items lifetime external address
    (reply_text message items (Mapped lifetime external address set) epoch)

abbrev pub PeerGrantsAreRead : Type 0
PeerGrantsAreRead = (config : Config) (source : Address) (message : List ℕ) (place : ℕ) (ask : Ask)
    (items : List Item) (lifetime external : ℕ) (address : Address) (epoch : ℕ)
    → AreOctets message → verdict_of config source message ≡ Asked place ask items
    → lifetime < 2 ^ 32 → epoch < 2 ^ 32 → length address.0 ≡ 16
    → TellsGrant message items lifetime external address
    (reply_text message items (Peered lifetime external address) epoch)
