-- What is read of octets fits the types of its fields (RFC 6887, section 7).
use Rattle.std.specs.Prelude.{◌≡◌, ℕ, ◌^◌, ◌<◌, true, List, Some}
use Rattle.std.specs.List.{AllByRecursion}
use Rattle.pcp_base.specs.declared.addresses.Address.{Address}
use Rattle.pcp_base.specs.declared.asks.Ask.{Ask}
use Rattle.pcp_base.specs.declared.codes.Code.TheVariants.{Success}
use Rattle.pcp_base.specs.declared.configs.Config.{Config}
use Rattle.pcp_codec.specs.Requests.{body_of, frame_of}
use Rattle.pcp_options.specs.declared.options.Item.{Item}
use Rattle.pcp_options.specs.declared.responses.Response.{Response}
use Rattle.pcp_options.specs.declared.verdicts.Verdict.TheVariants.{Asked}
use Rattle.pcp_options.specs.ReadResponses.{are_single, is_mapped, response_of}
use Rattle.pcp_options.specs.Responses.{AreOctets, FitsBody, FitsItem}
use Rattle.pcp_options.specs.Verdicts.{verdict_of}

-- the fields of a response
pub record FitsResponse (r : Response) : Type 0 where
  pub lifetime : r.lifetime < 2 ^ 32
  pub epoch : r.epoch < 2 ^ 32
  pub body : FitsBody r.body
  pub items : AllByRecursion FitsItem r.items

abbrev pub ResponsesFit : Type 0
ResponsesFit = (message : List ℕ) (r : Response)
    → AreOctets message → response_of message ≡ Some r → FitsResponse r

-- the fields of a request with these options
pub record FitsRequest (message : List ℕ) (items : List Item) : Type 0 where
  pub lifetime : (frame_of message).lifetime < 2 ^ 32
  pub body : FitsBody (body_of message)
  pub options : AllByRecursion FitsItem items

abbrev pub RequestsFit : Type 0
RequestsFit = (config : Config) (source : Address) (message : List ℕ) (place : ℕ) (ask : Ask)
    (items : List Item)
    → AreOctets message → verdict_of config source message ≡ Asked place ask items
    → FitsRequest message items

-- a response is for TCP or UDP, and a success has each single option once at most
pub record IsMapped (r : Response) : Type 0 where
  pub mapped : is_mapped r.body ≡ true
  pub single : r.code ≡ Success → are_single r.items ≡ true

abbrev pub ResponsesAreMapped : Type 0
ResponsesAreMapped = (message : List ℕ) (r : Response) → response_of message ≡ Some r → IsMapped r
