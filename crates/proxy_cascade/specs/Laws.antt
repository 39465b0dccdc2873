-- What holds of every cascade, whatever came to it.
use Rattle.std.specs.Prelude.{◌≡◌, ℕ, ◌<◌, true, false, List, [], ◌∷◌, ◌++◌, Option, Some, None}
use Rattle.pcp_base.specs.declared.addresses.Address.{Address}
use Rattle.pcp_base.specs.declared.asks.Answer.TheVariants.{Refused, Announced}
use Rattle.pcp_base.specs.declared.asks.Ask.TheVariants as Asks
use Rattle.pcp_base.specs.declared.asks.MapAsk.{MapAsk}
use Rattle.pcp_base.specs.declared.asks.Refusal.{Refusal}
use Rattle.pcp_base.specs.declared.datagrams.Datagram.{Datagram}
use Rattle.pcp_base.specs.Pairing.{v4_octets}
use Rattle.pcp_base.specs.Protocols.{protocol_of}
use Rattle.pcp_codec.specs.declared.requests.Body.TheVariants.{Announce, Map}
use Rattle.pcp_codec.specs.declared.requests.Common.{Common}
use Rattle.pcp_options.specs.declared.options.Item.{Item}
use Rattle.pcp_options.specs.declared.responses.Response.{Response}
use Rattle.pcp_options.specs.declared.verdicts.Verdict.TheVariants.{Asked}
use Rattle.pcp_options.specs.Replies.{reply_text, success_text}
use Rattle.pcp_options.specs.Verdicts.{verdict_of}
use Rattle.proxy_core.specs.declared.outs.ProxyOut.{ProxyOut}
use Rattle.proxy_core.specs.declared.outs.ProxyOut.TheVariants as ProxyOuts
use Rattle.proxy_core.specs.declared.outs.ProxyOut.TheVariants.{Reply}
use Rattle.proxy_core.specs.Down.{is_success, relayed_text}
use Rattle.proxy_core.specs.Nonces.{upstream_nonce}
use Rattle.proxy_core.specs.Relays.{response_from}
use Rattle.proxy_core.specs.Runs.{Event}
use Rattle.proxy_core.specs.Runs.Event.{Client, Server, Tick}
use Rattle.cascade_ties.specs.declared.ties.Tied.{Tied}
use Rattle.cascade_ties.specs.Ties.{TiesDiffer, tie_of}
use Rattle.proxy_cascade.specs.declared.outs.CascadeOut.{CascadeOut}
use Rattle.proxy_cascade.specs.declared.outs.CascadeOut.TheVariants.{Nothing, Down, Up}
use Rattle.proxy_cascade.specs.Cascades.{Cascade, at, new_cascade, for_itself}
use Rattle.proxy_cascade.specs.FromClients.{lease_text, on_client, repeated, up_text}
use Rattle.proxy_cascade.specs.FromServers.{on_server, told_lifetime}
use Rattle.proxy_cascade.specs.Runs.{epoch_after, run}

-- how a cascade begins
pub record Beginning : Type 0 where
  pub own : Address
  pub server : Address
  pub key : List ℕ
  pub low : ℕ
  pub high : ℕ
  pub start : ℕ

abbrev pub begun : Beginning → Cascade
begun b = new_cascade b.own b.server b.key b.low b.high b.start

-- ---- ties

-- two ties differ in their client's endpoint, and in protocol or local port
abbrev pub TiesAlwaysDiffer : Type 0
TiesAlwaysDiffer =
    (b : Beginning) (events : List Event) → TiesDiffer (run (begun b) events).ties.each

-- ---- what is sent for datagrams from upstream

-- the octets that go up of what a call gives
abbrev pub asked_up : ProxyOut → Option (List ℕ)
asked_up ProxyOuts.Nothing = None
asked_up (Reply d) = None
asked_up (ProxyOuts.Up octets) = Some octets

abbrev pub tried_up : CascadeOut → Option (List ℕ)
tried_up Nothing = None
tried_up (Down d) = None
tried_up (Up octets) = Some octets

-- the octets that go up for an event
abbrev pub up_by : Cascade → Event → Option (List ℕ)
up_by c (Client d now) = asked_up (on_client c d now).out
up_by c (Server d now) = tried_up (on_server c d now).out
up_by c (Tick now) = None

-- this MAP request with these options came among the events, was judged, and then, or for a later
-- event, went upstream for a local port
pub record WentUp (b : Beginning) (events : List Event) (request : Datagram) (ask : MapAsk)
    (items : List Item) (local : ℕ) : Type 0 where
  pub before : List Event
  pub now : ℕ
  pub behind : List Event
  pub came : events ≡ before ++ Client request now ∷ behind
  pub place : ℕ
  pub judged :
      verdict_of for_itself request.peer request.octets ≡ Asked place (Asks.Map ask) items
  pub between : List Event
  pub event : Event
  pub rest : List Event
  pub stands : Client request now ∷ behind ≡ between ++ event ∷ rest
  pub went : up_by (run (begun b) (before ++ between)) event
      ≡ Some (up_text b.key b.own ask items local)

-- an upstream MAP response, the tie that it answers, and the request that went upstream for it: the
-- response is for the tie's local port, and has the nonce by which the request went upstream
pub record AnswersTie (b : Beginning) (events : List Event) (d : Datagram) (now : ℕ) : Type 0 where
  pub response : Response
  pub read : response_from b.server d ≡ Some response
  pub common : Common
  pub is_map : response.body ≡ Map common
  pub request : Datagram
  pub ask : MapAsk
  pub items : List Item
  pub tie : Tied
  pub stands : tie_of ask.endpoint (at (run (begun b) events) now).ties.each ≡ Some tie
  pub asked : WentUp b events request ask items tie.tie.local
  pub itself : ask.endpoint.address ≡ request.peer
  pub internal : common.internal ≡ tie.tie.local
  pub protocol : protocol_of common.protocol ≡ Some ask.endpoint.protocol
  pub nonce : common.nonce ≡ upstream_nonce b.key ask.endpoint.address ask.nonce

-- to the client that asked, from its own address, by the door of its request
abbrev pub to_asker : Datagram → List ℕ → Datagram
to_asker request octets =
    record { peer = request.peer; port = request.port; door = request.door; octets = octets }

-- a told lease: the triple of request, upstream reply and tie. The client is told its own endpoint,
-- and the upstream external port and address
pub record IsToldLease (b : Beginning) (events : List Event) (d : Datagram) (now epoch : ℕ)
    (sent : Datagram) : Type 0 where
  pub triple : AnswersTie b events d now
  pub success : is_success triple.response.code ≡ true
  pub lasts : 0 < triple.response.lifetime
  pub told : sent ≡ to_asker triple.request (lease_text triple.ask.endpoint triple.ask.nonce
      (told_lifetime triple.response.lifetime) epoch triple.common.external
      triple.common.address (repeated triple.items))

-- a deletion: the client is told its suggestion, with lifetime 0
pub record IsToldDeletion (b : Beginning) (events : List Event) (d : Datagram) (now epoch : ℕ)
    (sent : Datagram) : Type 0 where
  pub triple : AnswersTie b events d now
  pub success : is_success triple.response.code ≡ true
  pub over : triple.response.lifetime ≡ 0
  pub told : sent ≡ to_asker triple.request (lease_text triple.ask.endpoint triple.ask.nonce 0
      epoch triple.ask.port triple.ask.address (repeated triple.items))

-- an error: the client is told the upstream code and lifetime
pub record IsToldError (b : Beginning) (events : List Event) (d : Datagram) (now epoch : ℕ)
    (sent : Datagram) : Type 0 where
  pub triple : AnswersTie b events d now
  pub fails : is_success triple.response.code ≡ false
  pub told : sent ≡ to_asker triple.request (relayed_text triple.request.octets
      triple.response.code triple.response.lifetime epoch)

-- an announcement to all clients, with epoch 0
abbrev pub IsAnnouncement : ℕ → Datagram → Type 0
IsAnnouncement epoch sent = (epoch ≡ 0) × (sent ≡ record {
  peer = record { 0 = v4_octets 224 0 0 1 };
  port = 5350;
  door = 0;
  octets = success_text 0 epoch Announce [];
})

-- one of the four
pub data IsSent (b : Beginning) (events : List Event) (d : Datagram) (now epoch : ℕ)
    (sent : Datagram) : Type 0 where
  lease : IsToldLease b events d now epoch sent → IsSent b events d now epoch sent
  deletion : IsToldDeletion b events d now epoch sent → IsSent b events d now epoch sent
  error : IsToldError b events d now epoch sent → IsSent b events d now epoch sent
  announcement : IsAnnouncement epoch sent → IsSent b events d now epoch sent

-- whatever came before, what is sent for a datagram from upstream is one of these, with the epoch
-- of the events
abbrev pub SentIsTold : Type 0
SentIsTold =
    (b : Beginning) (events : List Event) (d : Datagram) (now : ℕ) (sent : Datagram)
    → (on_server (run (begun b) events) d now).out ≡ Down sent
    → IsSent b events d now (epoch_after b.server b.start (events ++ Server d now ∷ [])) sent

-- ---- what is answered to datagrams of clients

-- a refusal, an answer to ANNOUNCE, or a success for MAP with lifetime 0: never a lease
pub data IsOwnText (request : List ℕ) (epoch : ℕ) (octets : List ℕ) : Type 0 where
  refused : (refusal : Refusal) → octets ≡ reply_text request [] (Refused refusal) epoch
      → IsOwnText request epoch octets
  announced : octets ≡ reply_text request [] Announced epoch → IsOwnText request epoch octets
  gone : (ask : MapAsk) (items : List Item)
      → octets ≡ lease_text ask.endpoint ask.nonce 0 epoch ask.port ask.address items
      → IsOwnText request epoch octets

-- a reply of the cascade's own goes to the client that asked, and has the epoch of the events
pub record IsOwnReply (d : Datagram) (epoch : ℕ) (sent : Datagram) : Type 0 where
  pub octets : List ℕ
  pub told : sent ≡ to_asker d octets
  pub text : IsOwnText d.octets epoch octets

abbrev pub RepliesAreOwn : Type 0
RepliesAreOwn =
    (b : Beginning) (events : List Event) (d : Datagram) (now : ℕ) (sent : Datagram)
    → (on_client (run (begun b) events) d now).out ≡ Reply sent
    → IsOwnReply d (epoch_after b.server b.start (events ++ Client d now ∷ [])) sent
