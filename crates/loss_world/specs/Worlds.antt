-- A world in which packets are lost, repeated and reordered, and never forged (our own): a server, relays and clients,
-- one clock, and all packets ever sent.
use Rattle.std.specs.Prelude.{◌≡◌, ◌<◌, ◌≤◌, ℕ, List, [], length, map, Option, Some, None, ⊤}
use Rattle.std.specs.List.{AllByRecursion}
use Rattle.pcp_base.specs.declared.addresses.Address.{Address}
use Rattle.pcp_base.specs.declared.addresses.Prefix.{Prefix}
use Rattle.pcp_base.specs.declared.asks.Ask.{Ask}
use Rattle.pcp_base.specs.declared.asks.Ask.TheVariants as Asks
use Rattle.pcp_base.specs.declared.configs.Config.{Config}
use Rattle.pcp_base.specs.States.{State}
use Rattle.pcp_base.specs.Tables.{empty_table}
use Rattle.pcp_options.specs.Responses.{AreOctets}
use Rattle.lease_histories.specs.HouseHistories.{HouseEntry}
use Rattle.lease_histories.specs.Laws.{AreOpenings}
use Rattle.lease_histories.specs.PlainHouses.{PlainHouse, house_begun}
use Rattle.client_core.specs.Clients.{ClientView, idle}
use Rattle.proxy_core.specs.Relays.{Relay, new_relay}
use Rattle.loss_world.specs.HouseLosses.{Cause, Renumbers}
use Rattle.loss_world.specs.Packets.{Loss, Origin, Packet, seconds}

-- a relay, its inner addresses, and the origin of the last epoch that it heard
pub record RelayHost : Type 0 where
  pub relay : Relay
  -- each the address of a door: the number of the door is its place
  pub inner : List Address
  pub origin : Option Origin

-- a client, its port, and the origin of the last epoch that it heard
pub record ClientHost : Type 0 where
  pub client : ClientView
  pub port : ℕ
  pub origin : Option Origin

-- that an external address was given another address, at this second
pub record Renumbering : Type 0 where
  pub moment : ℕ
  pub place : ℕ
  pub address : Address

pub record World : Type 0 where
  -- milliseconds
  pub clock : ℕ
  -- the address of the server
  pub server : Address
  pub house : PlainHouse
  -- what the house did, the latest first
  pub history : List HouseEntry
  pub losses : List Loss
  pub renumberings : List Renumbering
  pub relays : List RelayHost
  pub clients : List ClientHost
  -- every packet that was ever sent, the latest first
  pub bag : List Packet

-- what may happen: each event names packets, hosts and wants by their numbers
pub data Event : Type 0 where
  -- a packet of the bag comes to its address, or to a host of the side to which it was told
  ToServer : (which : ℕ) → Event
  ToRelay : (which relay : ℕ) → Event
  -- with a random word
  ToClient : (which client word : ℕ) → Event
  RelayTicks : (relay : ℕ) → Event
  ClientTicks : (client word : ℕ) → Event
  -- a client gains a want, or ends one
  Wants : (client : ℕ) → Option Address → Ask → Event
  Ends : (client id : ℕ) → Event
  -- an external address has a loss, which the server announces
  Fails : (place : ℕ) → Cause → Event
  -- and it announces again
  Announces : Event
  -- so many milliseconds pass
  Passes : (ms : ℕ) → Event

-- ---- the beginning

-- what a relay and a client are told when they are begun
pub record RelayTerms : Type 0 where
  -- its address upstream
  pub own : Address
  -- its addresses for clients, and for relays behind it
  pub inner : List Address
  -- the server's, or an inner one of the relay before it
  pub server : Address
  pub key : List ℕ
  -- whose THIRD_PARTY it passes on
  pub third_party : List Prefix

pub record ClientTerms : Type 0 where
  pub own : Address
  -- the server's, or an inner one of its relay
  pub server : Address
  pub port : ℕ

abbrev pub relay_begun : RelayTerms → RelayHost
relay_begun t =
    record { relay = new_relay t.own t.server t.key t.third_party; inner = t.inner; origin = None }

abbrev pub client_begun : ClientTerms → ClientHost
client_begun t = record { client = idle t.server t.own; port = t.port; origin = None }

pub record Beginning : Type 0 where
  pub clock : ℕ
  pub server : Address
  pub config : Config
  pub openings : List State
  pub relays : List RelayTerms
  pub clients : List ClientTerms

-- 16 octets
abbrev pub IsAddressValue : Address → Type 0
IsAddressValue a = (length a.0 ≡ 16) × AreOctets a.0

-- the addresses of a relay are values of their type, and its key is of octets
pub record IsRelayValue (t : RelayTerms) : Type 0 where
  pub own : IsAddressValue t.own
  pub inner : AllByRecursion IsAddressValue t.inner
  pub server : IsAddressValue t.server
  pub key : AreOctets t.key

-- and so are all
pub record AreHosts (b : Beginning) : Type 0 where
  pub server : IsAddressValue b.server
  pub externals : AllByRecursion (λ x. IsAddressValue x.address) b.config.externals
  pub relays : AllByRecursion IsRelayValue b.relays
  pub clients : AllByRecursion (λ t. IsAddressValue t.own × IsAddressValue t.server) b.clients

-- the nonce and the addresses that are asked with, and those and the prefixes of filters, are of octets
abbrev pub IsAskValue : Ask → Type 0
IsAskValue (Asks.Map ask) = AreOctets ask.nonce.0 × AreOctets ask.address.0
    × AllByRecursion (λ f. (f.prefix < 256) × AreOctets f.remote.0) ask.filters
IsAskValue (Asks.Peer ask) =
    AreOctets ask.nonce.0 × AreOctets ask.address.0 × AreOctets ask.remote.0
IsAskValue ask = ⊤

abbrev pub IsThirdValue : Option Address → Type 0
IsThirdValue None = ⊤
IsThirdValue (Some a) = AreOctets a.0

-- what an event names are values of their types
abbrev pub IsEventValue : Event → Type 0
IsEventValue (Wants client third ask) = IsThirdValue third × IsAskValue ask
IsEventValue (Fails place (Renumbers a)) = IsAddressValue a
IsEventValue event = ⊤

-- no packet, no want and no lease yet, and no last moment of an external address is later than the clock's second
pub record IsBeginning (b : Beginning) : Type 0 where
  pub hosts : AreHosts b
  pub openings : AreOpenings b.config b.openings
  pub empty : AllByRecursion (λ s. s.table ≡ empty_table) b.openings
  pub past : AllByRecursion (λ s. s.last ≤ seconds b.clock) b.openings

abbrev pub begun : Beginning → World
begun b = record {
  clock = b.clock;
  server = b.server;
  house = house_begun b.config b.openings;
  history = [];
  losses = [];
  renumberings = [];
  relays = map relay_begun b.relays;
  clients = map client_begun b.clients;
  bag = [];
}
