-- Each success in the bag, and so each lease that a client holds, is traced to an entry of the history.
use Rattle.std.specs.Prelude.{Contains, bytes_eq, map, position, replicate, unwrap_or, slice_get}
use Rattle.std.specs.List.{AllByRecursion}
use Rattle.std.proofs.Common.{◌≡◌, ◌∙◌, ◌⊎◌, inl, inr, ℕ, zero, suc, ◌+◌, ◌==◌, ◌&&◌, ◌||◌, Bool, true, false, List, length, [], ◌∷◌, ◌++◌, Option, Some, None, refl, ap, sym, subst}
use Rattle.std.proofs.lemmas.Bool.{and_parts, cond_both}
use Rattle.std.proofs.lemmas.Slice.Eq.{bytes_eq-Decides}
use Rattle.pcp_base.proofs.Members.{All-IsIn, All-append, All-weaker, Contains-from_IsIn, IsIn, IsIn-from_Contains}
use Rattle.pcp_base.specs.declared.addresses.Address.{Address}
use Rattle.pcp_base.specs.declared.asks.Ask.{Ask}
use Rattle.pcp_base.specs.declared.datagrams.Datagram.{Datagram}
use Rattle.pcp_base.specs.declared.datagrams.Entry.{Entry}
use Rattle.pcp_announce.specs.Doors.{all_hosts_v4}
use Rattle.pcp_codec.specs.declared.requests.Common.{Common}
use Rattle.pcp_codec.specs.Requests.{opcode_of}
use Rattle.pcp_options.specs.Asking.{third_of}
use Rattle.pcp_options.specs.ReadingLaws.{WrittenSuccessesAreRead}
use Rattle.pcp_options.specs.ReadResponses.{response_of}
use Rattle.pcp_options.specs.Responses.{AreOctets}
use Rattle.lease_histories.specs.Entries.{Request, request_entry, request_of}
use Rattle.lease_histories.specs.HouseHistories.{HouseEntry}
use Rattle.lease_histories.specs.PlainHouses.{PlainHouse, PlainShard, entry_by, greatest_base, packet_entry, raised, served_at}
use Rattle.lease_histories.specs.Routes.{route_of}
use Rattle.client_core.specs.declared.events.HeldLease.{HeldLease}
use Rattle.client_core.specs.declared.meanings.Meaning.{Meaning}
use Rattle.client_core.specs.declared.meanings.Meaning.TheVariants.{Nothing, Says}
use Rattle.client_core.specs.Clients.{ClientView, after_end, after_heard, after_meaning, after_tick, after_want, counted, free_id, meaning_of, request_due}
use Rattle.client_core.specs.Meanings.{want_at}
use Rattle.client_core.specs.Wants.{WantView}
use Rattle.pcp_base.specs.Epoch.{epoch_of}
use Rattle.pcp_base.specs.Tables.{same_address}
use Rattle.proxy_core.specs.declared.outs.ProxyOut.{ProxyOut}
use Rattle.proxy_core.specs.declared.outs.ProxyOut.TheVariants as Outs
use Rattle.proxy_core.specs.Relays.{on_client, on_server, on_tick, response_from}
use Rattle.proxy_core.specs.Runs as Runs
use Rattle.loss_world.specs.Disclosure.{IsGranted, IsRenumbered, LeasesAreGranted, rewritten}
use Rattle.loss_world.specs.HouseLosses.{Cause, Loses, Restarts, Renumbers, epoch_to_all, house_after, is_loss, told_by, updates_by}
use Rattle.loss_world.specs.Packets.{Origin, Packet, datagram_by, datagram_of}
use Rattle.loss_world.specs.Steps.{answered, asked, by_door, client_ends, client_ticks, client_wants, comes_down, fails, from_client, from_upstream, happens, hears, is_for, is_for_all, is_reached, leaves_from, lost, origin_after, relay_ticks, relayed, renumbered, run, sent_by, sent_down, sent_inside, with_relay, second, sends, told_now, to_client, to_relay, to_server, wanting, with_client}
use Rattle.loss_world.specs.Worlds.{Beginning, ClientHost, ClientTerms, IsEventValue, RelayHost, RelayTerms, Renumbering, World, Event, ToServer, ToRelay, ToClient, RelayTicks, ClientTicks, Wants, Ends, Fails, Announces, Passes, begun, client_begun, relay_begun}
use Rattle.loss_world.proofs.Announcements.{all-grants, announced-grants}
use Rattle.loss_world.proofs.Hearing.{begin-world}
use Rattle.loss_world.proofs.Held.{AreTold, SlotHolds, WantHolds, end-holds, heard-holds, slot-at, tick-holds, want-holds}
use Rattle.loss_world.proofs.HouseFacts.{All-got, All-mapped, All-set}
use Rattle.loss_world.proofs.CodeReads.{GrantsNothing}
use Rattle.loss_world.proofs.RelayDown.{IsOurs, RelayLaws, nothing-told, ours-next, own-grants, server-told}
use Rattle.loss_world.proofs.RelayFacts.{on-client}
use Rattle.loss_world.proofs.Saying.{request-none}
use Rattle.loss_world.proofs.TableSteps.{TableLaws, TablesOf, begin-tables, loss_entries, next-tables}
use Rattle.loss_world.proofs.Traces.{HostHolds, IsToldPacket, IsTraced}
use Rattle.loss_world.proofs.Updates.{event-tells, updates-told}
use Rattle.loss_world.proofs.Values.{PacketIsMessage, ValueLaws, Values, begin-values, next-values}
use Rattle.loss_world.proofs.WorldSteps.{IsWorld, next-world}

abbrev IsOurHost : Beginning → RelayHost → Type 0
IsOurHost b h = IsOurs b h.relay

-- what holds of a world whose external addresses stay
pub record Traces (b : Beginning) (w : World) : Type 0 where
  pub relays : AllByRecursion (IsOurHost b) w.relays
  pub bag : AllByRecursion (IsToldPacket b w.history w.renumberings) w.bag
  pub clients : AllByRecursion (HostHolds b w.history w.renumberings) w.clients

-- ---- the history grows, and so do the renumberings

pub record Grows (history more : List HouseEntry) (rs later : List Renumbering) : Type 0 where
  pub entries : (h : HouseEntry) → Contains history h → Contains more h
  pub renumberings : (r : Renumbering) → Contains rs r → Contains later r

told-more : (history more : List HouseEntry) (rs later : List Renumbering) → Grows history more rs later
    → (h : HouseEntry) (told came : Address) → (told ≡ came) ⊎ IsRenumbered rs h came → (told ≡ came) ⊎ IsRenumbered later h came
told-more history more rs later g h told came (inl e) = inl e
told-more history more rs later g h told came (inr r) = inr (record {
  renumbering = r.renumbering;
  among = g.renumberings r.renumbering r.among;
  place = r.place;
  later = r.later;
  address_is = r.address_is;
})

traced-more : (b : Beginning) (history more : List HouseEntry) (rs later : List Renumbering) → Grows history more rs later
    → (to : Address) (third : Option Address) (c : Common) → IsTraced b history rs to third c → IsTraced b more later to third c
traced-more b history more rs later g to third c h = record {
  entry = h.entry;
  among = g.entries h.entry h.among;
  told = h.told;
  grants = h.grants;
  relays = h.relays;
  on_the_way = h.on_the_way;
  rewritten_to = h.rewritten_to;
  protocol = h.protocol;
  internal = h.internal;
  external = h.external;
  address = told-more history more rs later g h.entry h.told.address c.address h.address;
}

packet-more : (b : Beginning) (history more : List HouseEntry) (rs later : List Renumbering) → Grows history more rs later
    → (p : Packet) → IsToldPacket b history rs p → IsToldPacket b more later p
packet-more b history more rs later g p h r c read success lasts has =
    traced-more b history more rs later g p.out.peer _ c (h r c read success lasts has)

slot-more : (T U : Option Address → Common → Type 0) → ((third : Option Address) (c : Common) → T third c → U third c) → (x : Option WantView) → SlotHolds T x → SlotHolds U x
slot-more T U f None h = tt
slot-more T U f (Some w) h = λ l e.
    let is = h l e in
    record {
      endpoint = is.endpoint;
      nonce = is.nonce;
      common = is.common;
      wanted = is.wanted;
      told = f w.third is.common is.told;
      nonce_is = is.nonce_is;
      protocol = is.protocol;
      internal = is.internal;
      external = is.external;
      address = is.address;
    }

host-more : (b : Beginning) (history more : List HouseEntry) (rs later : List Renumbering) → Grows history more rs later
    → (c : ClientHost) → HostHolds b history rs c → HostHolds b more later c
host-more b history more rs later g c h =
    All-weaker (SlotHolds (IsTraced b history rs c.client.own)) (SlotHolds (IsTraced b more later c.client.own))
    (slot-more (IsTraced b history rs c.client.own) (IsTraced b more later c.client.own) (traced-more b history more rs later g c.client.own)) c.client.wants h

behind : (h : HouseEntry) (history : List HouseEntry) (x : HouseEntry) → Contains history x → Contains (h ∷ history) x
behind h history x k = Contains-from_IsIn (h ∷ history) x (inr (IsIn-from_Contains history x k))

in-behind : (front history : List HouseEntry) (x : HouseEntry) → IsIn x history → IsIn x (front ++ history)
in-behind [] history x k = k
in-behind (y ∷ ys) history x k = inr (in-behind ys history x k)

behind-all : (front history : List HouseEntry) (x : HouseEntry) → Contains history x → Contains (front ++ history) x
behind-all front history x k = Contains-from_IsIn (front ++ history) x (in-behind front history x (IsIn-from_Contains history x k))

-- ---- the server

entry-from : (house : PlainHouse) (m : ℕ) (d : Datagram) (shard : Option PlainShard) (request : Option Request) (e : Entry) → entry_by house m d shard request ≡ Some e → e.from ≡ d
entry-from house m d None None e h = absurd cc
entry-from house m d None (Some request) e h = absurd cc
entry-from house m d (Some shard) None e h = absurd cc
entry-from house m d (Some shard) (Some request) e h =
    let made : request_entry (served_at house (route_of house.config d) shard) shard.state (raised m shard) (greatest_base house) d request ≡ e = cc in
    ap (λ (y : Entry). y.from) (sym made)

answer : (b : Beginning) (w : World) (d : Datagram) (e : Option Entry) → Traces b w → packet_entry w.house (second w) d ≡ e → Traces b (answered w d e)
answer b w d None h is = h
answer b w d (Some e) h is =
    let from = entry-from w.house (second w) d (slice_get w.house.shards (route_of w.house.config d)) (request_of w.house.config d) e is in
    let new : HouseEntry = record { place = route_of w.house.config d; entry = e } in
    let grows : Grows w.history (new ∷ w.history) w.renumberings w.renumberings = record { entries = behind new w.history; renumberings = λ r k. k } in
    record {
      relays = h.relays;
      bag = (
        (λ r c read success lasts has. record {
          entry = new;
          among = Contains-from_IsIn (new ∷ w.history) new (inl refl);
          told = c;
          grants = record { response = r; read = read; success = success; lasts = lasts; common = has; address = ap (λ (x : Datagram). unwrap_or (third_of r.items) x.peer) from };
          relays = [];
          on_the_way = tt;
          rewritten_to = refl;
          protocol = refl;
          internal = refl;
          external = refl;
          address = inl refl;
        }),
        All-weaker (IsToldPacket b w.history w.renumberings) (IsToldPacket b (new ∷ w.history) w.renumberings) (packet-more b w.history (new ∷ w.history) w.renumberings w.renumberings grows) w.bag h.bag,
      );
      clients = All-weaker (HostHolds b w.history w.renumberings) (HostHolds b (new ∷ w.history) w.renumberings) (host-more b w.history (new ∷ w.history) w.renumberings w.renumberings grows) w.clients h.clients;
    }

to-server : (b : Beginning) (w : World) (p : Option Packet) → Traces b w → Traces b (to_server w p)
to-server b w None h = h
to-server b w (Some p) h =
    cond_both (is_for p w.server) (answered w (datagram_of p) (packet_entry w.house (second w) (datagram_of p))) w (Traces b)
    (λ _. answer b w (datagram_of p) (packet_entry w.house (second w) (datagram_of p)) h refl) (λ _. h)

-- ---- relays

same-address : (x y : Address) → bytes_eq x.0 y.0 ≡ true → x ≡ y
same-address x y h = ap (λ (o : List ℕ). record { 0 = o }) ((bytes_eq-Decides x.0 y.0).0 h)

with-relay : (b : Beginning) (w : World) (k : ℕ) (r : RelayHost) → Traces b w → IsOurHost b r
    → Traces b (with_relay w k r)
with-relay b w k r h is =
    record { relays = All-set (IsOurHost b) w.relays k r h.relays is; bag = h.bag; clients = h.clients }

-- ---- what comes to a host

either : (x y z : Bool) → (x || (y && z)) ≡ true → (x ≡ true) ⊎ (y ≡ true)
either true y z h = inl refl
either false true z h = inr refl
either false false z h = absurd cc

-- what is for all grants nothing to anybody
told-here : (b : Beginning) (history : List HouseEntry) (rs : List Renumbering) (p : Packet) (own server : Address)
    → is_reached p own server ≡ true → IsToldPacket b history rs p → AreTold (IsTraced b history rs own) p.out.octets
told-here b history rs p own server here told = by (either (is_for p own) (is_for_all p) _ here)
  where
    by : (is_for p own ≡ true) ⊎ (is_for_all p ≡ true) → AreTold (IsTraced b history rs own) p.out.octets
    by (inl to) = subst (λ a. AreTold (IsTraced b history rs a) p.out.octets) (same-address p.out.peer own to) told
    by (inr all) =
        let parts = and_parts (is_for p all_hosts_v4) (opcode_of p.out.octets == 0) all in
        nothing-told (IsTraced b history rs own) p.out.octets (all-grants p.out.octets parts.1)

sends-told : (b : Beginning) (w : World) (ps : List Packet) → Traces b w
    → AllByRecursion (IsToldPacket b w.history w.renumberings) ps → Traces b (sends w ps)
sends-told b w ps h are = record {
  relays = h.relays;
  bag = All-append (IsToldPacket b w.history w.renumberings) ps w.bag are h.bag;
  clients = h.clients;
}

inside-told : (b : Beginning) (w : World) (r : RelayHost) (origin : Option Origin) (out : Datagram)
    → AreTold (IsTraced b w.history w.renumberings out.peer) out.octets
    → AllByRecursion (IsToldPacket b w.history w.renumberings) (sent_inside w r origin out)
inside-told b w r origin out told =
    All-mapped (IsToldPacket b w.history w.renumberings) (relayed w origin out) (λ a. told) (leaves_from r.inner out)

down-packet : (b : Beginning) (w : World) (r : RelayHost) (origin : Option Origin) (out : Option Datagram)
    → ((sent : Datagram) → out ≡ Some sent → AreTold (IsTraced b w.history w.renumberings sent.peer) sent.octets)
    → AllByRecursion (IsToldPacket b w.history w.renumberings) (sent_down w r origin out)
down-packet b w r origin None f = tt
down-packet b w r origin (Some sent) f = inside-told b w r origin sent (f sent refl)

from-upstream : RelayLaws → (b : Beginning) (w : World) (k : ℕ) (r : RelayHost) (p : Packet) → Traces b w
    → IsOurHost b r → IsToldPacket b w.history w.renumberings p → AreOctets p.out.octets
    → is_reached p r.relay.own r.relay.server ≡ true → Traces b (from_upstream w k r p)
from-upstream laws b w k r p h is told are here =
    let d = datagram_of p in
    let step = on_server r.relay d w.clock in
    let came = told-here b w.history w.renumberings p r.relay.own r.relay.server here told in
    let host : RelayHost = record r {
      relay = step.relay;
      origin = origin_after (response_from r.relay.server d) p.origin r.origin;
    } in
    sends-told b (with_relay w k host) (sent_down w r p.origin step.out)
    (with-relay b w k host h (ours-next laws.waits b r.relay (Runs.Server d w.clock) is))
    (down-packet b w r p.origin step.out
    (λ sent e. server-told laws b w.history w.renumberings r.relay is d are came sent w.clock e))

up-packet : (b : Beginning) (w : World) (r : RelayHost) (out : ProxyOut)
    → ((sent : Datagram) → out ≡ Outs.Reply sent → GrantsNothing sent.octets)
    → ((octets : List ℕ) → out ≡ Outs.Up octets → response_of octets ≡ None)
    → AllByRecursion (IsToldPacket b w.history w.renumberings) (sent_by w r out)
up-packet b w r Outs.Nothing f g = tt
up-packet b w r (Outs.Reply sent) f g =
    inside-told b w r r.origin sent (nothing-told (IsTraced b w.history w.renumberings sent.peer) sent.octets (f sent refl))
up-packet b w r (Outs.Up octets) f g = ((λ y c read success lasts has. let none = g octets refl in absurd cc), tt)

from-client : RelayLaws → (b : Beginning) (w : World) (k : ℕ) (r : RelayHost) (p : Packet) (door : ℕ) → Traces b w
    → IsOurHost b r → Traces b (from_client w k r p door)
from-client laws b w k r p door h is =
    let d = datagram_by door p in
    let step = on_client r.relay d w.clock in
    let host : RelayHost = record r { relay = step.relay } in
    sends-told b (with_relay w k host) (sent_by w r step.out)
    (with-relay b w k host h (ours-next laws.waits b r.relay (Runs.Client d w.clock) is))
    (up-packet b w r step.out (λ sent e. own-grants laws.errors r.relay d w.clock sent e) (on-client r.relay d w.clock).up)

by-door : RelayLaws → (b : Beginning) (w : World) (k : ℕ) (r : RelayHost) (p : Packet) (door : Option ℕ) → Traces b w
    → IsOurHost b r → Traces b (by_door w k r p door)
by-door laws b w k r p None h is = h
by-door laws b w k r p (Some door) h is = from-client laws b w k r p _ h is

to-relay : RelayLaws → (b : Beginning) (w : World) (k : ℕ) (r : Option RelayHost) (p : Option Packet)
    → Traces b w → ((x : RelayHost) → r ≡ Some x → IsOurHost b x)
    → ((x : Packet) → p ≡ Some x → IsToldPacket b w.history w.renumberings x)
    → ((x : Packet) → p ≡ Some x → PacketIsMessage x)
    → Traces b (to_relay w k r p)
to-relay laws b w k None p h f g o = h
to-relay laws b w k (Some r) None h f g o = h
to-relay laws b w k (Some r) (Some p) h f g o =
    let is = f r refl in
    cond_both (comes_down p r.relay) (from_upstream w k r p) (by_door w k r p (position (is_for p) r.inner)) (Traces b)
    (λ down. from-upstream laws b w k r p h is (g p refl) (o p refl).0.octets
    (and_parts (same_address p.sender r.relay.server) (is_reached p r.relay.own r.relay.server) down).1)
    (λ _. by-door laws b w k r p (position (is_for p) r.inner) h is)

relay-ticks : RelayLaws → (b : Beginning) (w : World) (k : ℕ) (r : Option RelayHost) → Traces b w
    → ((x : RelayHost) → r ≡ Some x → IsOurHost b x) → Traces b (relay_ticks w k r)
relay-ticks laws b w k None h f = h
relay-ticks laws b w k (Some r) h f =
    with-relay b w k (record r { relay = (on_tick r.relay w.clock).relay }) h (ours-next laws.waits b r.relay (Runs.Tick w.clock) (f r refl))

-- ---- clients

with-host : (b : Beginning) (w : World) (k : ℕ) (c : ClientHost) → Traces b w → HostHolds b w.history w.renumberings c → Traces b (with_client w k c)
with-host b w k c h is = record { relays = h.relays; bag = h.bag; clients = All-set (HostHolds b w.history w.renumberings) w.clients k c h.clients is }

own-same : (c : ClientView) (now word : ℕ) (m : Meaning) → (after_meaning c now word m).own ≡ c.own
own-same c now word Nothing = refl
own-same c now word (Says epoch said) = refl

to-client : (b : Beginning) (w : World) (k word : ℕ) (c : Option ClientHost) (p : Option Packet) → Traces b w → ((x : ClientHost) → c ≡ Some x → HostHolds b w.history w.renumberings x) →
    ((x : Packet) → p ≡ Some x → IsToldPacket b w.history w.renumberings x) → Traces b (to_client w k word c p)
to-client b w k word None p h f g = h
to-client b w k word (Some c) None h f g = h
to-client b w k word (Some c) (Some p) h f g =
    let T = IsTraced b w.history w.renumberings in
    let wants = (after_heard c.client (datagram_of p) w.clock word).wants in
    cond_both (is_reached p c.client.own c.client.server) (hears w k c p word) w (Traces b)
    (λ is. with-host b w k _ h
    (subst (λ a. AllByRecursion (SlotHolds (T a)) wants) (sym (own-same c.client (counted c.client w.clock) word (meaning_of c.client (datagram_of p))))
    (heard-holds (T c.client.own) c.client (datagram_of p) w.clock word
    (told-here b w.history w.renumberings p c.client.own c.client.server is (g p refl)) (f c refl))))
    (λ _. h)

asks : (b : Beginning) (w : World) (c : ClientHost) (octets : Option (List ℕ)) → ((text : List ℕ) → octets ≡ Some text → response_of text ≡ None) → Traces b w → Traces b (sends w (asked w c octets))
asks b w c None none h = record { relays = h.relays; bag = h.bag; clients = h.clients }
asks b w c (Some octets) none h = record { relays = h.relays; bag = ((λ r x read success lasts has. let no = none octets refl in absurd cc), h.bag); clients = h.clients }

client-ticks : (b : Beginning) (w : World) (k word : ℕ) (c : Option ClientHost) → Traces b w → ((x : ClientHost) → c ≡ Some x → HostHolds b w.history w.renumberings x) → Traces b (client_ticks w k word c)
client-ticks b w k word None h f = h
client-ticks b w k word (Some c) h f =
    let host = record c { client = after_tick c.client w.clock word } in
    asks b (with_client w k host) c (request_due c.client w.clock) (λ text e. request-none c.client w.clock text e)
    (with-host b w k host h (tick-holds (IsTraced b w.history w.renumberings c.client.own) c.client w.clock word (f c refl)))

wants : (b : Beginning) (w : World) (k : ℕ) (c : ClientHost) (third : Option Address) (ask : Ask) (id : Option ℕ) → Traces b w → HostHolds b w.history w.renumberings c → Traces b (wanting w k c third ask id)
wants b w k c third ask None h is = h
wants b w k c third ask (Some id) h is =
    with-host b w k (record c { client = after_want c.client id third ask w.clock }) h (want-holds (IsTraced b w.history w.renumberings c.client.own) c.client id third ask w.clock is)

client-wants : (b : Beginning) (w : World) (k : ℕ) (c : Option ClientHost) (third : Option Address) (ask : Ask) → Traces b w → ((x : ClientHost) → c ≡ Some x → HostHolds b w.history w.renumberings x) → Traces b (client_wants w k c third ask)
client-wants b w k None third ask h f = h
client-wants b w k (Some c) third ask h f = wants b w k c third ask (free_id c.client) h (f c refl)

client-ends : (b : Beginning) (w : World) (k id : ℕ) (c : Option ClientHost) → Traces b w → ((x : ClientHost) → c ≡ Some x → HostHolds b w.history w.renumberings x) → Traces b (client_ends w k id c)
client-ends b w k id None h f = h
client-ends b w k id (Some c) h f =
    with-host b w k (record c { client = after_end c.client id w.clock }) h (end-holds (IsTraced b w.history w.renumberings c.client.own) c.client id w.clock (f c refl))

-- ---- losses

renumbered-more : (w : World) (place : ℕ) (cause : Cause) (r : Renumbering) → Contains w.renumberings r
    → Contains (renumbered w place cause) r
renumbered-more w place Loses r k = k
renumbered-more w place Restarts r k = k
renumbered-more w place (Renumbers a) r k =
    Contains-from_IsIn (renumbered w place (Renumbers a)) r (inr (IsIn-from_Contains w.renumberings r k))

all-told : (b : Beginning) (history : List HouseEntry) (rs : List Renumbering) (w : World) (n epoch : ℕ) (outs : List Datagram)
    → AllByRecursion (λ out. AreTold (IsTraced b history rs out.peer) out.octets) outs
    → AllByRecursion (IsToldPacket b history rs) (map (told_now w n epoch) outs)
all-told b history rs w n epoch [] h = tt
all-told b history rs w n epoch (out ∷ outs) h = (h.0, all-told b history rs w n epoch outs h.1)

loss-told : WrittenSuccessesAreRead → (b : Beginning) (w : World) (place : ℕ) (shard : PlainShard) (cause : Cause) (base : ℕ)
    → slice_get w.house.shards place ≡ Some shard → IsEventValue (Fails place cause) → TablesOf w
    → AllByRecursion (λ out. AreTold (IsTraced b (loss_entries w place shard cause ++ w.history) (renumbered w place cause) out.peer) out.octets)
    (updates_by shard.state (raised (second w) shard) base cause)
loss-told law b w place shard Loses base at v t = tt
loss-told law b w place shard Restarts base at v t = tt
loss-told law b w place shard (Renumbers a) base at v t =
    let front = loss_entries w place shard (Renumbers a) in
    let rs = renumbered w place (Renumbers a) in
    updates-told law b w.history (front ++ w.history) (behind-all front w.history) rs place (second w) a v
    (Contains-from_IsIn rs (record { moment = second w; place = place; address = a }) (inl refl)) t.past (raised (second w) shard) base shard.state (t.tables place shard at)

loss : WrittenSuccessesAreRead → (b : Beginning) (w : World) (place : ℕ) (shard : PlainShard) (cause : Cause) (after : PlainHouse)
    → slice_get w.house.shards place ≡ Some shard → IsEventValue (Fails place cause) → TablesOf w → Traces b w
    → Traces b (lost w place shard cause after)
loss law b w place shard cause after at v t h =
    let m = raised (second w) shard in
    let base = greatest_base after in
    let front = loss_entries w place shard cause in
    let more = front ++ w.history in
    let rs = renumbered w place cause in
    let outs = told_by shard.state m base cause in
    let all = epoch_to_all m base in
    let nothing = nothing-told (IsTraced b more rs all.peer) all.octets (announced-grants m base) in
    let n : ℕ = length w.losses + 1 in
    let grows : Grows w.history more w.renumberings rs = record { entries = behind-all front w.history; renumberings = renumbered-more w place cause } in
    record {
      relays = h.relays;
      bag = All-append (IsToldPacket b more rs) (map (told_now w n (epoch_of m base)) outs) w.bag
          (all-told b more rs w n (epoch_of m base) outs (nothing, loss-told law b w place shard cause base at v t))
          (All-weaker (IsToldPacket b w.history w.renumberings) (IsToldPacket b more rs) (packet-more b w.history more w.renumberings rs grows) w.bag h.bag);
      clients = All-weaker (HostHolds b w.history w.renumberings) (HostHolds b more rs) (host-more b w.history more w.renumberings rs grows) w.clients h.clients;
    }

fails-at : WrittenSuccessesAreRead → (b : Beginning) (w : World) (place : ℕ) (cause : Cause) (shard : Option PlainShard)
    → slice_get w.house.shards place ≡ shard → IsEventValue (Fails place cause) → TablesOf w → Traces b w → Traces b (fails w place cause shard)
fails-at law b w place cause None at v t h = h
fails-at law b w place cause (Some shard) at v t h =
    let after = house_after w.house place shard (raised (second w) shard) cause in
    cond_both (is_loss shard cause) (lost w place shard cause after) w (Traces b)
    (λ _. loss law b w place shard cause after at v t h) (λ _. h)

-- ---- all

next-traces : RelayLaws → (b : Beginning) (w : World) (e : Event) → IsEventValue e → Values w → TablesOf w → Traces b w
    → Traces b (happens w e)
next-traces laws b w (ToServer p) v is t h = to-server b w (slice_get w.bag p) h
next-traces laws b w (ToRelay p k) v is t h =
    to-relay laws b w k (slice_get w.relays k) (slice_get w.bag p) h
    (λ x there. All-got (IsOurHost b) w.relays k x h.relays there)
    (λ x there. All-got (IsToldPacket b w.history w.renumberings) w.bag p x h.bag there)
    (λ x there. All-got PacketIsMessage w.bag p x is.bag there)
next-traces laws b w (ToClient p k word) v is t h =
    to-client b w k word (slice_get w.clients k) (slice_get w.bag p) h
    (λ x there. All-got (HostHolds b w.history w.renumberings) w.clients k x h.clients there)
    (λ x there. All-got (IsToldPacket b w.history w.renumberings) w.bag p x h.bag there)
next-traces laws b w (RelayTicks k) v is t h =
    relay-ticks laws b w k (slice_get w.relays k) h
    (λ x there. All-got (IsOurHost b) w.relays k x h.relays there)
next-traces laws b w (ClientTicks k word) v is t h =
    client-ticks b w k word (slice_get w.clients k) h
    (λ x there. All-got (HostHolds b w.history w.renumberings) w.clients k x h.clients there)
next-traces laws b w (Wants k third ask) v is t h =
    client-wants b w k (slice_get w.clients k) third ask h
    (λ x there. All-got (HostHolds b w.history w.renumberings) w.clients k x h.clients there)
next-traces laws b w (Ends k id) v is t h =
    client-ends b w k id (slice_get w.clients k) h
    (λ x there. All-got (HostHolds b w.history w.renumberings) w.clients k x h.clients there)
next-traces laws b w (Fails place cause) v is t h =
    fails-at laws.written b w place cause (slice_get w.house.shards place) refl v t h
next-traces laws b w Announces v is t h =
    let m = second w in
    let base = greatest_base w.house in
    let all = epoch_to_all m base in
    record {
      relays = h.relays;
      bag = (nothing-told (IsTraced b w.history w.renumberings all.peer) all.octets (announced-grants m base), h.bag);
      clients = h.clients;
    }
next-traces laws b w (Passes ms) v is t h = record { relays = h.relays; bag = h.bag; clients = h.clients }

-- what holds of every world that begins so, and in which events name values
record Holds (b : Beginning) (w : World) : Type 0 where
  world : IsWorld w
  values : Values w
  tables : TablesOf w
  traces : Traces b w

-- what the crates below say
pub record WorldLaws : Type 0 where
  pub relays : RelayLaws
  pub values : ValueLaws
  pub tables : TableLaws

next-holds : WorldLaws → (b : Beginning) (w : World) (e : Event) → IsEventValue e → Holds b w → Holds b (happens w e)
next-holds laws b w e v h = record {
  world = next-world laws.tables.changes w e h.world;
  values = next-values laws.values w e v (event-tells laws.values.octets w e v h.tables) h.values;
  tables = next-tables laws.tables w e h.values h.world.house h.tables;
  traces = next-traces laws.relays b w e v h.values h.tables h.traces;
}

run-holds : WorldLaws → (b : Beginning) (events : List Event) (w : World) → AllByRecursion IsEventValue events → Holds b w
    → Holds b (run w events)
run-holds laws b [] w are h = h
run-holds laws b (e ∷ es) w are h = run-holds laws b es (happens w e) are.1 (next-holds laws b w e are.0 h)

nothing-held : (T : Option Address → Common → Type 0) (n : ℕ) → AllByRecursion (SlotHolds T) (replicate n None)
nothing-held T zero = tt
nothing-held T (suc n) = (tt, nothing-held T n)

clients-begin : (b : Beginning) (ts : List ClientTerms) → AllByRecursion (HostHolds b [] []) (map client_begun ts)
clients-begin b [] = tt
clients-begin b (t ∷ ts) = (nothing-held (IsTraced b [] [] t.own) 64, clients-begin b ts)

relays-begin : (b : Beginning) (ts : List RelayTerms) → ((t : RelayTerms) → IsIn t ts → Contains b.relays t)
    → AllByRecursion (IsOurHost b) (map relay_begun ts)
relays-begin b [] f = tt
relays-begin b (t ∷ ts) f = (
  record { terms = t; among = f t (inl refl); own = refl; key = refl; waits = tt },
  relays-begin b ts (λ x k. f x (inr k)),
)

begins : (b : Beginning) → Traces b (begun b)
begins b = record {
  relays = relays-begin b b.relays (λ t k. Contains-from_IsIn b.relays t k);
  bag = tt;
  clients = clients-begin b b.clients;
}

held-traced : (b : Beginning) (w : World) (own : Address) (x : Option WantView) (want : WantView) (lease : HeldLease) → SlotHolds (IsTraced b w.history w.renumberings own) x → x ≡ Some want → want.lease ≡ Some lease → IsGranted b w own want lease
held-traced b w own None want lease h e is = absurd cc
held-traced b w own (Some y) want lease h e is =
    let same : y ≡ want = cc in
    let held = subst (WantHolds (IsTraced b w.history w.renumberings own)) same h lease is in
    let t = held.told in
    record {
      entry = t.entry;
      among = t.among;
      told = t.told;
      endpoint = held.endpoint;
      nonce = held.nonce;
      wanted = held.wanted;
      grants = t.grants;
      relays = t.relays;
      on_the_way = t.on_the_way;
      rewritten_to = t.rewritten_to ∙ ap (rewritten t.relays own) held.nonce_is;
      protocol = t.protocol ∙ held.protocol;
      internal = t.internal ∙ held.internal;
      external = t.external ∙ held.external;
      address = told-address held.common.address t.told.address t.entry held.address t.address;
    }
  where
    told-address : (a x : Address) (h : HouseEntry) → a ≡ lease.address → (x ≡ a) ⊎ IsRenumbered w.renumberings h a → (x ≡ lease.address) ⊎ IsRenumbered w.renumberings h lease.address
    told-address a x h same (inl e) = inl (e ∙ same)
    told-address a x h same (inr r) = inr (subst (IsRenumbered w.renumberings h) same r)

pub leases-granted : WorldLaws → LeasesAreGranted
leases-granted laws b events host id want lease begin are among at is =
    let w = run (begun b) events in
    let start : Holds b (begun b) = record {
      world = begin-world b begin;
      values = begin-values b begin.hosts;
      tables = begin-tables b begin;
      traces = begins b;
    } in
    let traces = (run-holds laws b events (begun b) are start).traces in
    let holds = All-IsIn (HostHolds b w.history w.renumberings) w.clients host traces.clients (IsIn-from_Contains w.clients host among) in
    held-traced b w host.client.own (want_at host.client.wants id) want lease (slot-at (IsTraced b w.history w.renumberings host.client.own) host.client.wants id holds) at is
