-- What each event makes of a world (our own). What can't happen changes nothing.
use Rattle.std.specs.Prelude.{ℕ, ◌+◌, ◌==◌, ◌&&◌, ◌||◌, Bool, List, [], ◌∷◌, ◌++◌, map, length, reverse, position, option_to_list, Option, Some, None, slice_get, slice_set, if◌then◌else◌}
use Rattle.pcp_base.specs.declared.addresses.Address.{Address}
use Rattle.pcp_base.specs.declared.asks.Ask.{Ask}
use Rattle.pcp_base.specs.declared.datagrams.Datagram.{Datagram}
use Rattle.pcp_base.specs.declared.datagrams.Entry.{Entry}
use Rattle.pcp_base.specs.Epoch.{epoch_of}
use Rattle.pcp_codec.specs.Requests.{opcode_of}
use Rattle.pcp_announce.specs.Doors.{all_hosts_v4}
use Rattle.pcp_options.specs.declared.responses.Response.{Response}
use Rattle.lease_histories.specs.PlainHouses.{PlainHouse, PlainShard, greatest_base, packet_after, packet_entry, raised}
use Rattle.lease_histories.specs.Routes.{route_of}
use Rattle.client_core.specs.declared.meanings.Meaning.{Meaning}
use Rattle.client_core.specs.declared.meanings.Meaning.TheVariants.{Nothing, Says}
use Rattle.client_core.specs.Clients.{after_end, after_heard, after_tick, after_want, free_id, meaning_of, request_due}
use Rattle.proxy_core.specs.declared.outs.ProxyOut.{ProxyOut}
use Rattle.proxy_core.specs.declared.outs.ProxyOut.TheVariants as Outs
use Rattle.pcp_base.specs.Tables.{same_address}
use Rattle.proxy_core.specs.Relays.{Relay, on_client, on_server, on_tick, response_from}
use Rattle.loss_world.specs.HouseLosses.{Cause, Renumbers, entries_of, epoch_to_all, house_after, is_loss, told_by}
use Rattle.loss_world.specs.Packets.{Origin, Packet, datagram_by, datagram_of, seconds}
use Rattle.loss_world.specs.Worlds.{World, RelayHost, ClientHost, Renumbering, Event, ToServer, ToRelay, ToClient, RelayTicks, ClientTicks, Wants, Ends, Fails, Announces, Passes}

abbrev pub second : World → ℕ
second w = seconds w.clock

-- the port of servers (RFC 6887, section 19.5)
abbrev pub servers_port : ℕ
servers_port = 5351

-- what a host asks a server, by its one door
abbrev pub to_servers : Address → List ℕ → Datagram
to_servers server octets = record { peer = server; port = servers_port; door = 0; octets = octets }

-- whether a packet is for the host of an address
abbrev pub is_for : Packet → Address → Bool
is_for p own = same_address p.out.peer own

-- whether it tells all hosts of a side an epoch
abbrev pub is_for_all : Packet → Bool
is_for_all p = is_for p all_hosts_v4 && opcode_of p.out.octets == 0

-- whether it comes to the host of an address with this server: it is for that host, or that server told all
abbrev pub is_reached : Packet → Address → Address → Bool
is_reached p own server = is_for p own || (is_for_all p && same_address p.sender server)

-- with these packets more
abbrev pub sends : World → List Packet → World
sends w ps = record w { bag = ps ++ w.bag }

-- ---- the server

-- what the server sends now, behind so many losses, with this epoch
abbrev pub told_now : World → ℕ → ℕ → Datagram → Packet
told_now w losses epoch out = record {
  sender = w.server;
  port = servers_port;
  out = out;
  sent = w.clock;
  origin = Some (record { losses = losses; sent = w.clock; epoch = epoch });
}

abbrev pub reply_to : Datagram → Entry → Datagram
reply_to d e = record { peer = d.peer; port = d.port; door = d.door; octets = e.reply }

abbrev pub answered : World → Datagram → Option Entry → World
answered w d None = w
answered w d (Some e) = record w {
  house = packet_after w.house (second w) d;
  history = (record { place = route_of w.house.config d; entry = e }) ∷ w.history;
  bag = told_now w (length w.losses) (epoch_of e.moment e.base) (reply_to d e) ∷ w.bag;
}

abbrev pub to_server : World → Option Packet → World
to_server w None = w
to_server w (Some p) =
    if is_for p w.server
    then answered w (datagram_of p) (packet_entry w.house (second w) (datagram_of p)) else w

-- ---- relays

abbrev pub with_relay : World → ℕ → RelayHost → World
with_relay w k host = record w { relays = slice_set w.relays k host }

-- what a relay sends now from an address of its own
abbrev pub relayed : World → Option Origin → Datagram → Address → Packet
relayed w origin out sender =
    record { sender = sender; port = servers_port; out = out; sent = w.clock; origin = origin }

-- the inner addresses from which it leaves: each one where it is for all hosts, else that of its door
abbrev pub leaves_from : List Address → Datagram → List Address
leaves_from inner out =
    if same_address out.peer all_hosts_v4 then inner else option_to_list (slice_get inner out.door)

abbrev pub sent_inside : World → RelayHost → Option Origin → Datagram → List Packet
sent_inside w host origin out = map (relayed w origin out) (leaves_from host.inner out)

abbrev pub sent_down : World → RelayHost → Option Origin → Option Datagram → List Packet
sent_down w host origin None = []
sent_down w host origin (Some out) = sent_inside w host origin out

-- The relay's own reply has the origin of the last epoch that it heard. What goes up leaves from its own address.
abbrev pub sent_by : World → RelayHost → ProxyOut → List Packet
sent_by w host Outs.Nothing = []
sent_by w host (Outs.Reply out) = sent_inside w host host.origin out
sent_by w host (Outs.Up octets) =
    relayed w None (to_servers host.relay.server octets) host.relay.own ∷ []

-- the origin of the epoch heard last, behind a datagram that may be a response
abbrev pub origin_after : Option Response → Option Origin → Option Origin → Option Origin
origin_after None came last = last
origin_after (Some r) came last = came

abbrev pub from_upstream : World → ℕ → RelayHost → Packet → World
from_upstream w k host p = sends
    (with_relay w k (record host {
      relay = (on_server host.relay (datagram_of p) w.clock).relay;
      origin = origin_after (response_from host.relay.server (datagram_of p)) p.origin host.origin;
    }))
    (sent_down w host p.origin (on_server host.relay (datagram_of p) w.clock).out)

abbrev pub from_client : World → ℕ → RelayHost → Packet → ℕ → World
from_client w k host p door = sends
    (with_relay w k (record host { relay = (on_client host.relay (datagram_by door p) w.clock).relay }))
    (sent_by w host (on_client host.relay (datagram_by door p) w.clock).out)

abbrev pub by_door : World → ℕ → RelayHost → Packet → Option ℕ → World
by_door w k host p None = w
by_door w k host p (Some door) = from_client w k host p door

-- whether its server sent it to the relay, or told all
abbrev pub comes_down : Packet → Relay → Bool
comes_down p relay = same_address p.sender relay.server && is_reached p relay.own relay.server

-- What its server sends to its own address or to all comes from upstream. Anything else for an inner address comes
-- from a client, by the door of that one.
abbrev pub to_relay : World → ℕ → Option RelayHost → Option Packet → World
to_relay w k None p = w
to_relay w k (Some host) None = w
to_relay w k (Some host) (Some p) =
    if comes_down p host.relay then from_upstream w k host p
    else by_door w k host p (position (is_for p) host.inner)

abbrev pub relay_ticks : World → ℕ → Option RelayHost → World
relay_ticks w k None = w
relay_ticks w k (Some host) = with_relay w k (record host { relay = (on_tick host.relay w.clock).relay })

-- ---- clients

abbrev pub with_client : World → ℕ → ClientHost → World
with_client w k host = record w { clients = slice_set w.clients k host }

abbrev pub origin_heard : Meaning → Option Origin → Option Origin → Option Origin
origin_heard Nothing came last = last
origin_heard (Says epoch word) came last = came

abbrev pub hears : World → ℕ → ClientHost → Packet → ℕ → World
hears w k host p word = with_client w k (record host {
  client = after_heard host.client (datagram_of p) w.clock word;
  origin = origin_heard (meaning_of host.client (datagram_of p)) p.origin host.origin;
})

abbrev pub to_client : World → ℕ → ℕ → Option ClientHost → Option Packet → World
to_client w k word None p = w
to_client w k word (Some host) None = w
to_client w k word (Some host) (Some p) =
    if is_reached p host.client.own host.client.server then hears w k host p word else w

abbrev pub asked : World → ClientHost → Option (List ℕ) → List Packet
asked w host None = []
asked w host (Some octets) = (record {
  sender = host.client.own;
  port = host.port;
  out = to_servers host.client.server octets;
  sent = w.clock;
  origin = None;
}) ∷ []

abbrev pub client_ticks : World → ℕ → ℕ → Option ClientHost → World
client_ticks w k word None = w
client_ticks w k word (Some host) = sends
    (with_client w k (record host { client = after_tick host.client w.clock word }))
    (asked w host (request_due host.client w.clock))

abbrev pub wanting : World → ℕ → ClientHost → Option Address → Ask → Option ℕ → World
wanting w k host third ask None = w
wanting w k host third ask (Some id) =
    with_client w k (record host { client = after_want host.client id third ask w.clock })

abbrev pub client_wants : World → ℕ → Option ClientHost → Option Address → Ask → World
client_wants w k None third ask = w
client_wants w k (Some host) third ask = wanting w k host third ask (free_id host.client)

abbrev pub client_ends : World → ℕ → ℕ → Option ClientHost → World
client_ends w k id None = w
client_ends w k id (Some host) = with_client w k (record host { client = after_end host.client id w.clock })

-- ---- losses and announcements

abbrev pub renumbered : World → ℕ → Cause → List Renumbering
renumbered w place (Renumbers a) = (record { moment = second w; place = place; address = a }) ∷ w.renumberings
renumbered w place cause = w.renumberings

-- the house after a loss, and what it tells
abbrev pub lost : World → ℕ → PlainShard → Cause → PlainHouse → World
lost w place shard cause after = record w {
  house = after;
  history = reverse (map (λ e. record { place = place; entry = e })
      (entries_of w.house shard (raised (second w) shard) cause)) ++ w.history;
  losses = (record { number = length w.losses; moment = second w }) ∷ w.losses;
  renumberings = renumbered w place cause;
  bag = map (told_now w (length w.losses + 1) (epoch_of (raised (second w) shard) (greatest_base after)))
      (told_by shard.state (raised (second w) shard) (greatest_base after) cause) ++ w.bag;
}

abbrev pub fails : World → ℕ → Cause → Option PlainShard → World
fails w place cause None = w
fails w place cause (Some shard) =
    if is_loss shard cause
    then lost w place shard cause (house_after w.house place shard (raised (second w) shard) cause) else w

abbrev pub announces : World → ℕ → World
announces w base = record w {
  bag = told_now w (length w.losses) (epoch_of (second w) base) (epoch_to_all (second w) base) ∷ w.bag;
}

-- ---- all

abbrev pub happens : World → Event → World
happens w (ToServer p) = to_server w (slice_get w.bag p)
happens w (ToRelay p k) = to_relay w k (slice_get w.relays k) (slice_get w.bag p)
happens w (ToClient p k word) = to_client w k word (slice_get w.clients k) (slice_get w.bag p)
happens w (RelayTicks k) = relay_ticks w k (slice_get w.relays k)
happens w (ClientTicks k word) = client_ticks w k word (slice_get w.clients k)
happens w (Wants k third ask) = client_wants w k (slice_get w.clients k) third ask
happens w (Ends k id) = client_ends w k id (slice_get w.clients k)
happens w (Fails place cause) = fails w place cause (slice_get w.house.shards place)
happens w Announces = announces w (greatest_base w.house)
happens w (Passes ms) = record w { clock = w.clock + ms }

-- a whole schedule, the first event first
abbrev pub run : World → List Event → World
run w [] = w
run w (e ∷ es) = run (happens w e) es
