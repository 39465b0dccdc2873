-- What is known of a request that is asked (RFC 6887, sections 11.1, 12.1 and 13).
use Rattle.std.specs.Prelude.{◌≡◌, ℕ, true, List, ⊤}
use Rattle.pcp_base.specs.declared.addresses.Address.{Address}
use Rattle.pcp_base.specs.declared.addresses.Nonce.{Nonce}
use Rattle.pcp_base.specs.declared.asks.Ask.{Ask}
use Rattle.pcp_base.specs.declared.asks.Ask.TheVariants as Asks
use Rattle.pcp_base.specs.declared.asks.MapAsk.{MapAsk}
use Rattle.pcp_base.specs.declared.asks.PeerAsk.{PeerAsk}
use Rattle.pcp_base.specs.declared.configs.Config.{Config}
use Rattle.pcp_base.specs.declared.leases.Endpoint.{Endpoint}
use Rattle.pcp_base.specs.Protocols.{protocol_number}
use Rattle.pcp_codec.specs.declared.requests.Common.{Common}
use Rattle.pcp_codec.specs.declared.requests.Body.{Body}
use Rattle.pcp_codec.specs.declared.requests.Body.TheVariants.{Map, Peer}
use Rattle.pcp_codec.specs.Requests.{body_of}
use Rattle.pcp_options.specs.declared.options.Item.{Item}
use Rattle.pcp_options.specs.declared.verdicts.Verdict.TheVariants.{Asked}
use Rattle.pcp_options.specs.Asking.{subject_of, third_of}
use Rattle.pcp_options.specs.ReadResponses.{are_single, is_mapped}
use Rattle.pcp_options.specs.Verdicts.{verdict_of}

-- the endpoint and the nonce of an ask are those of the data, for this address
pub record AsksCommon (address : Address) (c : Common) (e : Endpoint) (nonce : Nonce) : Type 0 where
  pub address_is : e.address ≡ address
  pub protocol : protocol_number e.protocol ≡ c.protocol
  pub port : e.port ≡ c.internal
  pub nonce_is : nonce ≡ c.nonce

pub record AsksMap (address : Address) (body : Body) (ask : MapAsk) : Type 0 where
  pub common : Common
  pub body_is : body ≡ Map common
  pub asks : AsksCommon address common ask.endpoint ask.nonce

pub record AsksPeer (address : Address) (body : Body) (ask : PeerAsk) : Type 0 where
  pub common : Common
  pub body_is : body ≡ Peer common ask.remote_port ask.remote
  pub asks : AsksCommon address common ask.endpoint ask.nonce

abbrev pub AsksBody : Address → Body → Ask → Type 0
AsksBody address body (Asks.Map ask) = AsksMap address body ask
AsksBody address body (Asks.Peer ask) = AsksPeer address body ask
AsksBody address body ask = ⊤

-- it asks what its data say, for TCP or UDP, and each option that may stand once at most does so
pub record IsAskedSo (source : Address) (message : List ℕ) (ask : Ask) (items : List Item)
    : Type 0 where
  pub asks : AsksBody (subject_of source (third_of items)) (body_of message) ask
  pub mapped : is_mapped (body_of message) ≡ true
  pub single : are_single items ≡ true

abbrev pub AsksAreOfRequests : Type 0
AsksAreOfRequests = (config : Config) (source : Address) (message : List ℕ) (place : ℕ) (ask : Ask)
    (items : List Item)
    → verdict_of config source message ≡ Asked place ask items → IsAskedSo source message ask items
