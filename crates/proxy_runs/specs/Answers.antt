-- For what a datagram goes down to a client (RFC 7648 in role).
use Rattle.std.specs.Prelude.{◌≡◌, ℕ, ◌⊎◌, List, ◌∷◌, ◌++◌}
use Rattle.std.specs.List.{AllByRecursion}
use Rattle.pcp_base.specs.declared.addresses.Address.{Address}
use Rattle.pcp_base.specs.declared.addresses.Prefix.{Prefix}
use Rattle.pcp_base.specs.declared.datagrams.Datagram.{Datagram}
use Rattle.proxy_core.specs.Relays.{Relay, new_relay}
use Rattle.proxy_core.specs.Runs.{Event, IsAnnouncement, StandsForPair}
use Rattle.proxy_core.specs.Runs.Event.{Client, Server, Tick}
use Rattle.proxy_runs.specs.Proxying.{proxying}
use Rattle.relay_rates.specs.Rates.{new_gate, rated, rated_begin}
use Rattle.relay_rates.specs.Sifting.{passing}
use Rattle.relay_runs.specs.Sending.{down_for_all}

-- The relay's own reply goes to the sender, by the door of its request. For a datagram of the server
-- goes down what it says to a request that went up before, for the client that asked it, by the
-- door of that request, or an announcement.
abbrev pub Answers : Relay → List Event → Event → Datagram → Type 0
Answers start before (Client d now) sent =
    (sent.peer ≡ d.peer) × (sent.port ≡ d.port) × (sent.door ≡ d.door)
Answers start before (Server d now) sent =
    StandsForPair start before d sent ⊎ IsAnnouncement start.server d sent
Answers start before (Tick now) sent = ⊥

-- the datagram answers one of these events
pub record IsAnswered (start : Relay) (events : List Event) (sent : Datagram) : Type 0 where
  pub before : List Event
  pub event : Event
  pub behind : List Event
  pub came : events ≡ before ++ event ∷ behind
  pub answers : Answers start before event sent

-- whatever comes to a relay that heard nothing, behind its gates: what goes down answers what passed
abbrev pub DownIsAnswered : Type 0
DownIsAnswered =
    (own server : Address) (key : List ℕ) (third_party : List Prefix) (rate : ℕ)
    (events : List Event)
    → AllByRecursion
    (IsAnswered (new_relay own server key third_party) (passing (new_gate rate) events))
    (down_for_all (rated proxying)
    (rated_begin rate (new_relay own server key third_party)) events)
