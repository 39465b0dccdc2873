-- What holds in every world, whatever is lost, repeated or reordered (our own): where a lease that a client holds comes
-- from, and that a client hears of a loss (RFC 6887, section 8.5).
use Rattle.std.specs.Prelude.{◌≡◌, ◌⊎◌, ◌+◌, ◌-◌, ◌*◌, ◌/◌, ◌<◌, ◌≤◌, ℕ, false, List, [], ◌∷◌, Contains, unwrap_or, Option, Some}
use Rattle.std.specs.List.{AllByRecursion}
use Rattle.pcp_base.specs.declared.addresses.Address.{Address}
use Rattle.pcp_base.specs.declared.addresses.Nonce.{Nonce}
use Rattle.pcp_base.specs.declared.asks.Ask.{Ask}
use Rattle.pcp_base.specs.declared.asks.Ask.TheVariants as Asks
use Rattle.pcp_base.specs.declared.codes.Code.TheVariants.{Success}
use Rattle.pcp_base.specs.declared.leases.Endpoint.{Endpoint}
use Rattle.pcp_base.specs.Protocols.{protocol_number}
use Rattle.pcp_codec.specs.declared.requests.Common.{Common}
use Rattle.pcp_codec.specs.declared.requests.Body.{Body}
use Rattle.pcp_codec.specs.declared.requests.Body.TheVariants.{Announce, Map, Peer}
use Rattle.pcp_options.specs.declared.responses.Response.{Response}
use Rattle.pcp_options.specs.Asking.{third_of}
use Rattle.pcp_options.specs.ReadResponses.{response_of}
use Rattle.client_core.specs.declared.epochs.HeardEpoch.{HeardEpoch}
use Rattle.client_core.specs.declared.events.HeldLease.{HeldLease}
use Rattle.client_core.specs.declared.meanings.EpochFound.TheVariants.{Invalid}
use Rattle.client_core.specs.declared.meanings.Meaning.TheVariants.{Says}
use Rattle.client_core.specs.declared.meanings.Notice.{Notice}
use Rattle.client_core.specs.Clients.{heard_of, meaning_of}
use Rattle.client_core.specs.EpochTests.{heard_epoch, is_valid_after}
use Rattle.client_core.specs.Meanings.{want_at}
use Rattle.client_core.specs.Wants.{WantView}
use Rattle.proxy_core.specs.declared.epochs.Heard.{Heard}
use Rattle.proxy_core.specs.Nonces.{upstream_nonce}
use Rattle.lease_histories.specs.HouseHistories.{HouseEntry}
use Rattle.loss_world.specs.Packets.{Loss, Origin, Packet, datagram_of, seconds}
use Rattle.loss_world.specs.Steps.{run, second}
use Rattle.loss_world.specs.Worlds.{Beginning, ClientHost, Event, IsBeginning, IsEventValue, RelayHost, RelayTerms, Renumbering, World, begun}

-- ---- where a lease comes from

-- a nonce that is asked by the host of an address, as the relays on the way rewrite it, that of the client first
abbrev pub rewritten : List RelayTerms → Address → Nonce → Nonce
rewritten [] from nonce = nonce
rewritten (relay ∷ relays) from nonce = rewritten relays relay.own (upstream_nonce relay.key from nonce)

-- what is wanted: an ask for MAP or PEER with this endpoint and nonce
abbrev pub IsAskFor : Ask → Endpoint → Nonce → Type 0
IsAskFor (Asks.Map ask) endpoint nonce = (ask.endpoint ≡ endpoint) × (ask.nonce ≡ nonce)
IsAskFor (Asks.Peer ask) endpoint nonce = (ask.endpoint ≡ endpoint) × (ask.nonce ≡ nonce)
IsAskFor ask endpoint nonce = ⊥

-- what MAP and PEER share
abbrev pub HasCommon : Body → Common → Type 0
HasCommon Announce c = ⊥
HasCommon (Map a) c = a ≡ c
HasCommon (Peer a port remote) c = a ≡ c

-- The entry's reply grants a lease: it is a success with these data, of a lease that lasts, for the endpoint of this
-- address.
pub record Grants (h : HouseEntry) (c : Common) (internal : Address) : Type 0 where
  pub response : Response
  pub read : response_of h.entry.reply ≡ Some response
  pub success : response.code ≡ Success
  pub lasts : 0 < response.lifetime
  pub common : HasCommon response.body c
  pub address : unwrap_or (third_of response.items) h.entry.from.peer ≡ internal

-- a renumbering of the entry's external address, not before it, told this address
pub record IsRenumbered (renumberings : List Renumbering) (h : HouseEntry) (address : Address) : Type 0 where
  pub renumbering : Renumbering
  pub among : Contains renumberings renumbering
  pub place : renumbering.place ≡ h.place
  pub later : h.entry.moment ≤ renumbering.moment
  pub address_is : renumbering.address ≡ address

-- The lease that a client holds for a want is one that an entry of the history granted to its endpoint and its nonce, as
-- the relays on the way rewrote it; its address is that of the entry's answer, or of a later renumbering.
pub record IsGranted (b : Beginning) (w : World) (own : Address) (want : WantView) (lease : HeldLease) : Type 0 where
  pub entry : HouseEntry
  pub among : Contains w.history entry
  pub told : Common
  pub endpoint : Endpoint
  pub nonce : Nonce
  pub wanted : IsAskFor want.ask endpoint nonce
  pub grants : Grants entry told (unwrap_or want.third own)
  pub relays : List RelayTerms
  pub on_the_way : AllByRecursion (Contains b.relays) relays
  pub rewritten_to : told.nonce ≡ rewritten relays own nonce
  pub protocol : told.protocol ≡ protocol_number endpoint.protocol
  pub internal : told.internal ≡ endpoint.port
  pub external : told.external ≡ lease.external
  pub address : (told.address ≡ lease.address) ⊎ IsRenumbered w.renumberings entry lease.address

-- So it is through any number of relays, whatever is lost and whichever external addresses change.
abbrev pub LeasesAreGranted : Type 0
LeasesAreGranted =
    (b : Beginning) (events : List Event) (host : ClientHost) (id : ℕ) (want : WantView)
    (lease : HeldLease)
    → IsBeginning b → AllByRecursion IsEventValue events
    → Contains (run (begun b) events).clients host
    → want_at host.client.wants id ≡ Some want → want.lease ≡ Some lease
    → IsGranted b (run (begun b) events) host.client.own want lease

-- ---- where replies come from

-- a reply that is sent has an origin that was sent not later, and its epoch is at most the origin's and the seconds between
pub record HasBoundOrigin (from : Option Origin) (epoch sent : ℕ) : Type 0 where
  pub origin : Origin
  pub has : from ≡ Some origin
  pub sent_before : origin.sent ≤ sent
  pub most : epoch ≤ origin.epoch + (seconds sent - seconds origin.sent)

abbrev pub RepliesHaveOrigins : Type 0
RepliesHaveOrigins =
    (b : Beginning) (events : List Event) (p : Packet) (response : Response) →
    IsBeginning b → Contains (run (begun b) events).bag p → response_of p.out.octets ≡ Some response →
    HasBoundOrigin p.origin response.epoch p.sent

-- so has what a client heard, at the latest with the last millisecond of the second that it keeps
abbrev pub ClientsHaveOrigins : Type 0
ClientsHaveOrigins =
    (b : Beginning) (events : List Event) (host : ClientHost) (told : HeardEpoch) →
    IsBeginning b → Contains (run (begun b) events).clients host → host.client.heard ≡ Some told →
    HasBoundOrigin host.origin told.server (1000 * told.seconds + 999)

-- and what a relay heard
abbrev pub RelaysHaveOrigins : Type 0
RelaysHaveOrigins =
    (b : Beginning) (events : List Event) (host : RelayHost) (told : Heard) →
    IsBeginning b → Contains (run (begun b) events).relays host → host.relay.heard ≡ Some told →
    HasBoundOrigin host.origin told.epoch told.at_ms

-- ---- losses are heard

-- A client took a reply whose origin was sent at s1, d seconds before it heard it: the epoch that it heard last. Now, a
-- gap later, a packet of the bag tells it another one, whose origin was sent behind a loss that came behind the first.
-- The first epoch was above 2 + d + gap/16.
pub record HearsAfterLoss (w : World) (host : ClientHost) (p : Packet) : Type 0 where
  pub client : Contains w.clients host
  pub packet : Contains w.bag p
  pub first : HeardEpoch
  pub heard : host.client.heard ≡ Some first
  pub first_origin : Origin
  pub first_from : host.origin ≡ Some first_origin
  pub epoch : ℕ
  pub word : Notice
  pub says : meaning_of host.client (datagram_of p) ≡ Says epoch word
  pub origin : Origin
  pub from : p.origin ≡ Some origin
  pub loss : Loss
  pub among : Contains w.losses loss
  pub behind_first : first_origin.losses ≤ loss.number
  pub before_second : loss.number < origin.losses
  pub d : ℕ
  pub gap : ℕ
  pub heard_at : first.seconds ≡ seconds first_origin.sent + d
  pub now : second w ≡ first.seconds + gap
  pub high : 2 + d + gap / 16 < first.server

-- the client finds the second epoch invalid
abbrev pub LossesAreFound : Type 0
LossesAreFound =
    (b : Beginning) (events : List Event) (host : ClientHost) (p : Packet) →
    IsBeginning b → HearsAfterLoss (run (begun b) events) host p →
    (heard_of host.client (datagram_of p) (run (begun b) events).clock).epoch ≡ Invalid

-- No smaller bound would do: were it 1 + d + gap/16, there are epochs of which the test finds none invalid.
abbrev pub NoBoundIsSmaller : Type 0
NoBoundIsSmaller =
    ((first second at d gap : ℕ) → second ≤ gap + d → 1 + d + gap / 16 < first
    → is_valid_after (heard_epoch first at) (heard_epoch second (at + gap)) ≡ false) → ⊥
