-- What comes to a relay, one after the other, and the law that each reply to a client stands for a
-- pair: a request of this client that went upstream, and an upstream reply that answers it.
use Rattle.std.specs.Prelude.{◌≡◌, ℕ, List, [], ◌∷◌, ◌++◌, Some, None, ◌⊎◌}
use Rattle.std.specs.Option.{is_none}
use Rattle.pcp_base.specs.declared.addresses.Address.{Address}
use Rattle.pcp_base.specs.declared.addresses.Prefix.{Prefix}
use Rattle.pcp_base.specs.declared.asks.Ask.{Ask}
use Rattle.pcp_base.specs.declared.datagrams.Datagram.{Datagram}
use Rattle.pcp_options.specs.declared.options.Item.{Item}
use Rattle.pcp_options.specs.declared.responses.Response.{Response}
use Rattle.pcp_options.specs.declared.verdicts.Verdict.TheVariants.{Asked}
use Rattle.pcp_options.specs.Asking.{third_of}
use Rattle.pcp_options.specs.Verdicts.{verdict_of}
use Rattle.proxy_core.specs.declared.outs.ProxyOut.TheVariants.{Up}
use Rattle.proxy_core.specs.Down.{down_text}
use Rattle.proxy_core.specs.Everyone.{judged_by}
use Rattle.proxy_core.specs.Keys.{key_of}
use Rattle.proxy_core.specs.Relays.{Relay, new_relay, on_client, on_server, on_tick, announced, response_from}
use Rattle.proxy_core.specs.Up.{up_key, up_text}

-- a datagram of a client, a datagram from upstream, a tick; each with its time in milliseconds
pub data Event : Type 0 where
  Client : Datagram → ℕ → Event
  Server : Datagram → ℕ → Event
  Tick : ℕ → Event

-- the relay after an event
abbrev pub next : Relay → Event → Relay
next relay (Client d now) = (on_client relay d now).relay
next relay (Server d now) = (on_server relay d now).relay
next relay (Tick now) = (on_tick relay now).relay

-- the relay after events, the first one first
abbrev pub run : Relay → List Event → Relay
run relay [] = relay
run relay (e ∷ es) = run (next relay e) es

-- this request with these options came among the events, was judged, and went upstream
pub record WentUp (start : Relay) (events : List Event) (request : Datagram) (items : List Item)
    : Type 0 where
  pub before : List Event
  pub now : ℕ
  pub behind : List Event
  pub came : events ≡ before ++ Client request now ∷ behind
  pub place : ℕ
  pub ask : Ask
  pub judged : verdict_of (judged_by start.third_party) request.peer request.octets
      ≡ Asked place ask items
  pub went : (on_client (run start before) request now).out
      ≡ Up (up_text start.key start.own request items)

-- what is sent for a datagram from upstream stands for a request that went up and for its reply:
-- all six parts of the key are those of the request that went up, and the client that asked is told
-- what Down says
pub record StandsForPair (start : Relay) (events : List Event) (d sent : Datagram) : Type 0 where
  pub response : Response
  pub read : response_from start.server d ≡ Some response
  pub request : Datagram
  pub items : List Item
  pub asked : WentUp start events request items
  pub key : key_of response.body (third_of response.items) ≡ up_key start.key request items
  pub told : sent ≡ record {
    peer = request.peer;
    port = request.port;
    door = request.door;
    octets = down_text request.octets (is_none (third_of items)) response;
  }

-- an ANNOUNCE response of the server, which goes to all clients as it is
pub record IsAnnouncement (server : Address) (d sent : Datagram) : Type 0 where
  pub response : Response
  pub read : response_from server d ≡ Some response
  pub no_key : key_of response.body (third_of response.items) ≡ None
  pub told : sent ≡ announced d

-- whatever came before, and whatever comes now
abbrev pub RepliesStandForPairs : Type 0
RepliesStandForPairs =
    (own server : Address) (key : List ℕ) (third_party : List Prefix) (events : List Event)
    (d : Datagram) (now : ℕ) (sent : Datagram)
    → (on_server (run (new_relay own server key third_party) events) d now).out ≡ Some sent
    → StandsForPair (new_relay own server key third_party) events d sent
    ⊎ IsAnnouncement server d sent
