-- Every packet is a message: of octets, and of version 2.
use Rattle.std.specs.List.{AllByRecursion}
use Rattle.std.specs.Prelude.{⊤, map, nat_le, option_to_list, position, replicate, slice_get, slice_set}
use Rattle.std.proofs.Common.{◌≡◌, ◌∙◌, ℕ, zero, suc, ◌+◌, ◌==◌, ◌&&◌, Bool, true, false, cond, List, [], ◌∷◌, length, Option, Some, None, refl, ap, sym, subst}
use Rattle.std.proofs.lemmas.Bool.{cond_both}
use Rattle.pcp_base.proofs.Members.{All-append, All-weaker}
use Rattle.pcp_base.specs.declared.addresses.Address.{Address}
use Rattle.pcp_base.specs.declared.asks.Answer.{Answer}
use Rattle.pcp_base.specs.declared.asks.Answer.TheVariants.{Refused, Announced, Gone, Mapped, Peered}
use Rattle.pcp_base.specs.declared.asks.Ask.{Ask}
use Rattle.pcp_base.specs.declared.asks.Ask.TheVariants.{Known}
use Rattle.pcp_base.specs.declared.asks.PortSet as Sets
use Rattle.pcp_base.specs.declared.configs.Config.{Config}
use Rattle.pcp_base.specs.declared.configs.External.{External}
use Rattle.pcp_base.specs.declared.datagrams.Datagram.{Datagram}
use Rattle.pcp_base.specs.declared.datagrams.Entry.{Entry}
use Rattle.pcp_base.specs.declared.records.Change.TheVariants as Changes
use Rattle.pcp_base.specs.Epoch.{epoch_of}
use Rattle.pcp_base.specs.States.{State}
use Rattle.pcp_base.specs.Tables.{same_address}
use Rattle.pcp_announce.specs.Doors.{all_hosts_v4}
use Rattle.pcp_codec.specs.declared.requests.Body.{Body}
use Rattle.pcp_codec.specs.declared.requests.Body.TheVariants.{Announce, Map, Peer}
use Rattle.pcp_codec.specs.Fields.{octet}
use Rattle.pcp_codec.specs.Requests.{body_of}
use Rattle.pcp_options.specs.declared.options.Item.{Item}
use Rattle.pcp_options.specs.declared.options.Item.TheVariants.{ThirdParty, PreferFailure, Filter, PortSet}
use Rattle.pcp_options.specs.declared.verdicts.Verdict.{Verdict}
use Rattle.pcp_options.specs.declared.verdicts.Verdict.TheVariants.{Silent, Refuse, Asked}
use Rattle.pcp_options.specs.Replies.{assigned, reply_text, told_items}
use Rattle.pcp_options.specs.Requests.{request_text}
use Rattle.pcp_options.specs.Responses.{AreOctets}
use Rattle.pcp_options.specs.Verdicts.{verdict_of}
use Rattle.option_laws.specs.Octets.{OctetsBody, OctetsItem}
use Rattle.natpmp_front.specs.Requests.{is_front}
use Rattle.natpmp_front.specs.Replies.{front_text}
use Rattle.natpmp_front.specs.Verdicts.{front_of}
use Rattle.lease_store.specs.declared.terms.Terms.{Terms}
use Rattle.lease_store.specs.LeaseTerms.{terms_of}
use Rattle.lease_core.specs.Decide.{decide}
use Rattle.decision_laws.specs.Addresses.{AnswersTellTheAddress, TellsAddress}
use Rattle.lease_histories.specs.Entries.{Request, decided_on, reply_text_of, request_by, request_entry, request_of}
use Rattle.lease_histories.specs.PlainHouses.{PlainHouse, PlainShard, add_by, add_entry, entry_by, greatest_base, packet_entry, raised, served_at, shard_after, shards_begun}
use Rattle.lease_histories.specs.Routes.{front_verdict, route_of, verdict_of_datagram}
use Rattle.client_core.specs.declared.meanings.Meaning.{Meaning}
use Rattle.client_core.specs.declared.meanings.Meaning.TheVariants.{Nothing, Says}
use Rattle.client_core.specs.Clients.{ClientView, after_end, after_heard, after_meaning, after_tick, after_want, counted, first_due, free_id, meaning_of, request_due, request_for, request_in}
use Rattle.client_core.specs.Meanings.{want_at}
use Rattle.client_core.specs.Wants.{WantView, next_ask}
use Rattle.proxy_core.specs.declared.outs.ProxyOut.{ProxyOut}
use Rattle.proxy_core.specs.declared.outs.ProxyOut.TheVariants as Outs
use Rattle.proxy_core.specs.Relays.{on_client, on_server, on_tick, response_from}
use Rattle.loss_world.specs.HouseLosses.{Cause, Loses, Restarts, Renumbers, at_address, control_entry, controlled, house_after, is_loss, readdressed, shards_at, told_by, updates_by}
use Rattle.loss_world.specs.Packets.{Origin, Packet, datagram_by, datagram_of}
use Rattle.loss_world.specs.Steps.{answered, asked, by_door, client_ends, client_ticks, client_wants, comes_down, fails, from_client, from_upstream, happens, hears, is_for, is_reached, leaves_from, lost, origin_after, relay_ticks, relayed, second, sends, sent_by, sent_down, sent_inside, to_client, to_relay, to_server, told_now, wanting, with_client, with_relay}
use Rattle.loss_world.specs.Worlds.{AreHosts, Beginning, ClientHost, ClientTerms, IsAddressValue, IsAskValue, IsEventValue, IsRelayValue, IsThirdValue, RelayHost, RelayTerms, World, Event, ToServer, ToRelay, ToClient, RelayTicks, ClientTicks, Wants, Ends, Fails, Announces, Passes, begun, client_begun, relay_begun}
use Rattle.loss_world.proofs.Announcements.{announced-message}
use Rattle.loss_world.proofs.ClientValues.{SlotIsValue, due-value, end-value, heard-value, tick-value, want-value}
use Rattle.loss_world.proofs.HouseFacts.{All-got, All-map, All-set}
use Rattle.loss_world.proofs.RelayValues as Relays
use Rattle.loss_world.proofs.RelayValues.{IsMessage, OctetLaws, OutIsMessage, RelayIsValue, SentIsMessage, client-message, refusal-message, server-message, success-message}

abbrev pub PacketIsMessage : Packet → Type 0
PacketIsMessage p = IsMessage p.out.octets × AreOctets p.sender.0

abbrev pub OutIsText : Datagram → Type 0
OutIsText out = IsMessage out.octets

abbrev IsSender : Address → Type 0
IsSender a = AreOctets a.0

abbrev HostIsRelay : RelayHost → Type 0
HostIsRelay h = RelayIsValue h.relay × AllByRecursion IsSender h.inner

abbrev HostIsClient : ClientHost → Type 0
HostIsClient h = AreOctets h.client.own.0 × AllByRecursion SlotIsValue h.client.wants

abbrev pub ShardIsValue : PlainShard → Type 0
ShardIsValue s = IsAddressValue s.external.address

-- what holds of each world that begins so, and in which events name values
pub record Values (w : World) : Type 0 where
  pub server : AreOctets w.server.0
  pub shards : AllByRecursion ShardIsValue w.house.shards
  pub relays : AllByRecursion HostIsRelay w.relays
  pub clients : AllByRecursion HostIsClient w.clients
  pub bag : AllByRecursion PacketIsMessage w.bag

-- what the crates below say of all messages and decisions
pub record ValueLaws : Type 0 where
  pub octets : OctetLaws
  pub addresses : AnswersTellTheAddress

-- ---- the server's replies

not-front-by : (b : Bool) (n : ℕ) → n ≡ 2 → (b && (n == 0)) ≡ false
not-front-by true n h = subst (λ k. (k == 0) ≡ false) (sym h) refl
not-front-by false n h = refl

not-front : (octets : List ℕ) → octet octets 0 ≡ 2 → is_front octets ≡ false
not-front octets h = not-front-by (nat_le 2 (length octets)) (octet octets 0) h

-- a message is judged by PCP, and answered so
pub pcp-verdict : (config : Config) (source : Address) (octets : List ℕ) → octet octets 0 ≡ 2
    → verdict_of_datagram config source octets ≡ verdict_of config source octets
unfolding verdict_of_datagram
pcp-verdict config source octets h =
    ap (λ b. cond b (front_verdict (front_of config source octets)) (verdict_of config source octets)) (not-front octets h)

pub pcp-reply : (octets : List ℕ) (address : Address) (items : List Item) (answer : Answer) (epoch : ℕ)
    → octet octets 0 ≡ 2 → reply_text_of octets address items answer epoch ≡ reply_text octets items answer epoch
pcp-reply octets address items answer epoch h =
    ap (λ b. cond b (front_text octets address answer epoch) (reply_text octets items answer epoch)) (not-front octets h)

told-octets : (set : Option Sets.PortSet) (items : List Item) → AllByRecursion OctetsItem items
    → AllByRecursion OctetsItem (told_items set items)
told-octets set [] h = tt
told-octets set (ThirdParty a ∷ items) h = (h.0, told-octets set items h.1)
told-octets set (PreferFailure ∷ items) h = (h.0, told-octets set items h.1)
told-octets set (Filter f ∷ items) h = (h.0, told-octets set items h.1)
told-octets None (PortSet s ∷ items) h = told-octets None items h.1
told-octets (Some t) (PortSet s ∷ items) h = (tt, told-octets (Some t) items h.1)

assigned-octets : (body : Body) (external : ℕ) (address : Address) → OctetsBody body → AreOctets address.0
    → OctetsBody (assigned body external address)
assigned-octets Announce external address h a = tt
assigned-octets (Map c) external address h a = (h.0, h.1, a)
assigned-octets (Peer c port remote) external address h a = ((h.0.0, h.0.1, a), h.1)

asked-message : ValueLaws → (octets : List ℕ) (items : List Item) (answer : Answer) (epoch : ℕ) (a : Address)
    → AreOctets octets → OctetsBody (body_of octets) → AllByRecursion OctetsItem items → AreOctets a.0
    → TellsAddress a answer → IsMessage (reply_text octets items answer epoch)
asked-message laws octets items (Refused refusal) epoch a are b is o t = refusal-message laws.octets octets refusal epoch are
asked-message laws octets items Announced epoch a are b is o t = success-message laws.octets 0 epoch Announce [] tt tt
asked-message laws octets items Gone epoch a are b is o t =
    success-message laws.octets 0 epoch (body_of octets) (told_items None items) b (told-octets None items is)
asked-message laws octets items (Mapped lifetime external address set) epoch a are b is o t =
    success-message laws.octets lifetime epoch (assigned (body_of octets) external address) (told_items set items)
    (assigned-octets (body_of octets) external address b (subst (λ (x : Address). AreOctets x.0) (sym t) o)) (told-octets set items is)
asked-message laws octets items (Peered lifetime external address) epoch a are b is o t =
    success-message laws.octets lifetime epoch (assigned (body_of octets) external address) (told_items None items)
    (assigned-octets (body_of octets) external address b (subst (λ (x : Address). AreOctets x.0) (sym t) o)) (told-octets None items is)

abbrev RepliesBy : Terms → State → ℕ → List ℕ → ℕ → Request → Type 0
RepliesBy terms s m octets epoch request =
    IsMessage (reply_text octets request.items (decide terms s m request.ask).answer epoch)

judged-message : ValueLaws → (config : Config) (source : Address) (octets : List ℕ) (v : Verdict) (request : Request)
    (terms : Terms) (s : State) (m epoch : ℕ) → AreOctets octets → AreOctets terms.external.address.0
    → verdict_of config source octets ≡ v → request_by v ≡ Some request → RepliesBy terms s m octets epoch request
judged-message laws config source octets Silent request terms s m epoch are a is h = absurd cc
judged-message laws config source octets (Refuse refusal) request terms s m epoch are a is h =
    let asked : Request = record { ask = Known refusal; items = [] } in
    let same : asked ≡ request = cc in
    subst (RepliesBy terms s m octets epoch) same (refusal-message laws.octets octets refusal epoch are)
judged-message laws config source octets (Asked place ask items) request terms s m epoch are a is h =
    let asked : Request = record { ask = ask; items = items } in
    let same : asked ≡ request = cc in
    let of = laws.octets.asked config source octets place ask items are is in
    subst (RepliesBy terms s m octets epoch) same
    (asked-message laws octets items (decide terms s m ask).answer epoch terms.external.address are of.0 of.1 a (laws.addresses terms s m ask))

-- ---- the house

set-value : (shards : List PlainShard) (place : ℕ) (shard : PlainShard) (e : Entry) → AllByRecursion ShardIsValue shards
    → slice_get shards place ≡ Some shard → AllByRecursion ShardIsValue (slice_set shards place (shard_after shard e))
set-value shards place shard e h at =
    All-set ShardIsValue shards place (shard_after shard e) h (All-got ShardIsValue shards place shard h at)

add-value : (house : PlainHouse) (place : ℕ) (shard : Option PlainShard) (e : Option Entry)
    → AllByRecursion ShardIsValue house.shards → slice_get house.shards place ≡ shard
    → AllByRecursion ShardIsValue (add_by house place shard e).shards
add-value house place None None h at = h
add-value house place None (Some e) h at = h
add-value house place (Some shard) None h at = h
add-value house place (Some shard) (Some e) h at = set-value house.shards place shard e h at

entry-value : (house : PlainHouse) (place : ℕ) (e : Option Entry) → AllByRecursion ShardIsValue house.shards
    → AllByRecursion ShardIsValue (add_entry house place e).shards
entry-value house place e h = add-value house place (slice_get house.shards place) e h refl

moved-value : (shards : List PlainShard) (place : ℕ) (a : Address) (shard : Option PlainShard) → IsAddressValue a
    → AllByRecursion ShardIsValue shards → AllByRecursion ShardIsValue (shards_at shards place a shard)
moved-value shards place a None v h = h
moved-value shards place a (Some shard) v h =
    All-set ShardIsValue shards place (record shard { external = at_address a shard.external }) h v

loss-value : (house : PlainHouse) (place : ℕ) (shard : PlainShard) (m : ℕ) (cause : Cause) → IsEventValue (Fails place cause)
    → AllByRecursion ShardIsValue house.shards → AllByRecursion ShardIsValue (house_after house place shard m cause).shards
loss-value house place shard m Loses v h = entry-value house place (Some (control_entry house m Changes.Lose)) h
loss-value house place shard m Restarts v h =
    let begun = controlled house place m Changes.Start in
    entry-value begun place (Some (control_entry begun m (Changes.Renumber shard.external.address)))
    (entry-value house place (Some (control_entry house m Changes.Start)) h)
loss-value house place shard m (Renumbers a) v h =
    let moved = readdressed house place a in
    entry-value moved place (Some (control_entry moved m (Changes.Renumber a)))
    (moved-value house.shards place a (slice_get house.shards place) v h)

-- ---- the server

entry-message : ValueLaws → (house : PlainHouse) (m : ℕ) (d : Datagram) (shard : Option PlainShard) (request : Option Request)
    (e : Entry) → AllByRecursion ShardIsValue house.shards → IsMessage d.octets
    → slice_get house.shards (route_of house.config d) ≡ shard → request_of house.config d ≡ request
    → entry_by house m d shard request ≡ Some e → IsMessage e.reply
entry-message laws house m d None None e h is at by made = absurd cc
entry-message laws house m d None (Some request) e h is at by made = absurd cc
entry-message laws house m d (Some shard) None e h is at by made = absurd cc
entry-message laws house m d (Some shard) (Some request) e h is at by made =
    let x = served_at house (route_of house.config d) shard in
    let now = raised m shard in
    let base = greatest_base house in
    let same : request_entry x shard.state now base d request ≡ e = cc in
    let value = All-got ShardIsValue house.shards (route_of house.config d) shard h at in
    let v = verdict_of house.config d.peer d.octets in
    let judges : request_by v ≡ Some request =
    ap request_by (sym (pcp-verdict house.config d.peer d.octets is.version)) ∙ by in
    let terms = terms_of x.external x.config in
    let told = judged-message laws house.config d.peer d.octets v request terms shard.state now (epoch_of now base) is.octets value.1 refl judges in
    subst (λ (y : Entry). IsMessage y.reply) same
    (subst IsMessage (sym (pcp-reply d.octets x.external.address request.items (decided_on x shard.state now request).answer (epoch_of now base) is.version)) told)

answer : ValueLaws → (w : World) (d : Datagram) (e : Option Entry) → Values w → IsMessage d.octets
    → packet_entry w.house (second w) d ≡ e → Values (answered w d e)
answer laws w d None h is made = h
answer laws w d (Some e) h is made =
    let place = route_of w.house.config d in
    let told = entry-message laws w.house (second w) d (slice_get w.house.shards place) (request_of w.house.config d) e h.shards is refl refl made in
    record {
      server = h.server;
      shards = entry-value w.house place (packet_entry w.house (second w) d) h.shards;
      relays = h.relays;
      clients = h.clients;
      bag = ((told, h.server), h.bag);
    }

to-server : ValueLaws → (w : World) (p : Option Packet) → Values w → ((x : Packet) → p ≡ Some x → PacketIsMessage x)
    → Values (to_server w p)
to-server laws w None h f = h
to-server laws w (Some p) h f =
    let d = datagram_of p in
    cond_both (is_for p w.server) (answered w d (packet_entry w.house (second w) d)) w Values
    (λ _. answer laws w d (packet_entry w.house (second w) d) h (f p refl).0 refl) (λ _. h)

-- ---- relays

with-relay : (w : World) (k : ℕ) (r : RelayHost) → Values w → HostIsRelay r → Values (with_relay w k r)
with-relay w k r h is = record {
  server = h.server;
  shards = h.shards;
  relays = All-set HostIsRelay w.relays k r h.relays is;
  clients = h.clients;
  bag = h.bag;
}

sends-value : (w : World) (ps : List Packet) → Values w → AllByRecursion PacketIsMessage ps → Values (sends w ps)
sends-value w ps h are = record {
  server = h.server;
  shards = h.shards;
  relays = h.relays;
  clients = h.clients;
  bag = All-append PacketIsMessage ps w.bag are h.bag;
}

one-sender : (inner : List Address) (door : ℕ) (a : Option Address) → AllByRecursion IsSender inner
    → slice_get inner door ≡ a → AllByRecursion IsSender (option_to_list a)
one-sender inner door None h there = tt
one-sender inner door (Some a) h there = (All-got IsSender inner door a h there, tt)

senders : (inner : List Address) (out : Datagram) → AllByRecursion IsSender inner
    → AllByRecursion IsSender (leaves_from inner out)
senders inner out h =
    cond_both (same_address out.peer all_hosts_v4) inner (option_to_list (slice_get inner out.door)) (AllByRecursion IsSender)
    (λ _. h) (λ _. one-sender inner out.door (slice_get inner out.door) h refl)

inside-value : (w : World) (r : RelayHost) (origin : Option Origin) (out : Datagram) → AllByRecursion IsSender r.inner
    → IsMessage out.octets → AllByRecursion PacketIsMessage (sent_inside w r origin out)
inside-value w r origin out h is =
    All-map IsSender PacketIsMessage (relayed w origin out) (λ a own. (is, own)) (leaves_from r.inner out) (senders r.inner out h)

down-value : (w : World) (r : RelayHost) (origin : Option Origin) (out : Option Datagram) → AllByRecursion IsSender r.inner
    → SentIsMessage out → AllByRecursion PacketIsMessage (sent_down w r origin out)
down-value w r origin None h is = tt
down-value w r origin (Some sent) h is = inside-value w r origin sent h is

up-value : (w : World) (r : RelayHost) (out : ProxyOut) → HostIsRelay r → OutIsMessage out
    → AllByRecursion PacketIsMessage (sent_by w r out)
up-value w r Outs.Nothing h is = tt
up-value w r (Outs.Reply sent) h is = inside-value w r r.origin sent h.1 is
up-value w r (Outs.Up octets) h is = ((is, h.0.own), tt)

from-upstream : ValueLaws → (w : World) (k : ℕ) (r : RelayHost) (p : Packet) → Values w → HostIsRelay r
    → PacketIsMessage p → Values (from_upstream w k r p)
from-upstream laws w k r p h is m =
    let d = datagram_of p in
    let step = on_server r.relay d w.clock in
    let done = server-message laws.octets r.relay d w.clock is.0 m.0 in
    let host : RelayHost = record r {
      relay = step.relay;
      origin = origin_after (response_from r.relay.server d) p.origin r.origin;
    } in
    sends-value (with_relay w k host) (sent_down w r p.origin step.out) (with-relay w k host h (done.0, is.1))
    (down-value w r p.origin step.out is.1 done.1)

from-client : ValueLaws → (w : World) (k : ℕ) (r : RelayHost) (p : Packet) (door : ℕ) → Values w → HostIsRelay r
    → PacketIsMessage p → Values (from_client w k r p door)
from-client laws w k r p door h is m =
    let d = datagram_by door p in
    let step = on_client r.relay d w.clock in
    let done = client-message laws.octets r.relay d w.clock is.0 m.1 m.0.octets in
    let host : RelayHost = record r { relay = step.relay } in
    sends-value (with_relay w k host) (sent_by w r step.out) (with-relay w k host h (done.0, is.1))
    (up-value w r step.out is done.1)

by-door : ValueLaws → (w : World) (k : ℕ) (r : RelayHost) (p : Packet) (door : Option ℕ) → Values w → HostIsRelay r
    → PacketIsMessage p → Values (by_door w k r p door)
by-door laws w k r p None h is m = h
by-door laws w k r p (Some door) h is m = from-client laws w k r p _ h is m

to-relay : ValueLaws → (w : World) (k : ℕ) (r : Option RelayHost) (p : Option Packet) → Values w
    → ((x : RelayHost) → r ≡ Some x → HostIsRelay x) → ((x : Packet) → p ≡ Some x → PacketIsMessage x)
    → Values (to_relay w k r p)
to-relay laws w k None p h f g = h
to-relay laws w k (Some r) None h f g = h
to-relay laws w k (Some r) (Some p) h f g =
    cond_both (comes_down p r.relay) (from_upstream w k r p) (by_door w k r p (position (is_for p) r.inner)) Values
    (λ _. from-upstream laws w k r p h (f r refl) (g p refl))
    (λ _. by-door laws w k r p (position (is_for p) r.inner) h (f r refl) (g p refl))

relay-ticks : (w : World) (k : ℕ) (r : Option RelayHost) → Values w → ((x : RelayHost) → r ≡ Some x → HostIsRelay x)
    → Values (relay_ticks w k r)
relay-ticks w k None h f = h
relay-ticks w k (Some r) h f =
    let is = f r refl in
    with-relay w k (record r { relay = (on_tick r.relay w.clock).relay }) h (Relays.tick-value r.relay w.clock is.0, is.1)

-- ---- clients

with-host : (w : World) (k : ℕ) (c : ClientHost) → Values w → HostIsClient c → Values (with_client w k c)
with-host w k c h is = record {
  server = h.server;
  shards = h.shards;
  relays = h.relays;
  clients = All-set HostIsClient w.clients k c h.clients is;
  bag = h.bag;
}

own-same : (c : ClientView) (d : Datagram) (now word : ℕ) → (after_heard c d now word).own ≡ c.own
own-same c d now word = by (meaning_of c d)
  where
    by : (m : Meaning) → (after_meaning c (counted c now) word m).own ≡ c.own
    by Nothing = refl
    by (Says epoch said) = refl

to-client : ValueLaws → (w : World) (k word : ℕ) (c : Option ClientHost) (p : Option Packet) → Values w
    → ((x : ClientHost) → c ≡ Some x → HostIsClient x) → ((x : Packet) → p ≡ Some x → PacketIsMessage x)
    → Values (to_client w k word c p)
to-client laws w k word None p h f g = h
to-client laws w k word (Some c) None h f g = h
to-client laws w k word (Some c) (Some p) h f g =
    let d = datagram_of p in
    let is = f c refl in
    cond_both (is_reached p c.client.own c.client.server) (hears w k c p word) w Values
    (λ _. with-host w k _ h (
      subst (λ (a : Address). AreOctets a.0) (sym (own-same c.client d w.clock word)) is.0,
      heard-value laws.octets.read c.client d w.clock word (g p refl).0.octets is.1,
    ))
    (λ _. h)

version-of : (own : Address) (x : Option WantView) (octets : List ℕ) → request_in own x ≡ Some octets → octet octets 0 ≡ 2
version-of own None octets e = absurd cc
version-of own (Some w) octets e =
    let same : request_text own w.third (next_ask w) ≡ octets = cc in
    subst (λ t. octet t 0 ≡ 2) same refl

due-version : (c : ClientView) (id : Option ℕ) (octets : List ℕ) → request_for c id ≡ Some octets → octet octets 0 ≡ 2
due-version c None octets e = absurd cc
due-version c (Some id) octets e = version-of c.own (want_at c.wants id) octets e

asked-packet : (w : World) (c : ClientHost) (octets : Option (List ℕ)) → AreOctets c.client.own.0
    → ((text : List ℕ) → octets ≡ Some text → IsMessage text) → AllByRecursion PacketIsMessage (asked w c octets)
asked-packet w c None own f = tt
asked-packet w c (Some octets) own f = ((f octets refl, own), tt)

client-ticks : ValueLaws → (w : World) (k word : ℕ) (c : Option ClientHost) → Values w
    → ((x : ClientHost) → c ≡ Some x → HostIsClient x) → Values (client_ticks w k word c)
client-ticks laws w k word None h f = h
client-ticks laws w k word (Some c) h f =
    let is = f c refl in
    let host : ClientHost = record c { client = after_tick c.client w.clock word } in
    sends-value (with_client w k host) (asked w c (request_due c.client w.clock))
    (with-host w k host h (is.0, tick-value c.client w.clock word is.1))
    (asked-packet w c (request_due c.client w.clock) is.0
    (λ text e. record {
      octets = due-value laws.octets.requests c.client w.clock text is.0 is.1 e;
      version = due-version c.client (first_due c.client.wants (counted c.client w.clock)) text e;
    }))

wants : (w : World) (k : ℕ) (c : ClientHost) (third : Option Address) (ask : Ask) (id : Option ℕ) → Values w
    → HostIsClient c → IsThirdValue third → IsAskValue ask → Values (wanting w k c third ask id)
wants w k c third ask None h is t a = h
wants w k c third ask (Some id) h is t a =
    with-host w k (record c { client = after_want c.client id third ask w.clock }) h (is.0, want-value c.client id third ask w.clock t a is.1)

client-wants : (w : World) (k : ℕ) (c : Option ClientHost) (third : Option Address) (ask : Ask) → Values w
    → ((x : ClientHost) → c ≡ Some x → HostIsClient x) → IsThirdValue third → IsAskValue ask → Values (client_wants w k c third ask)
client-wants w k None third ask h f t a = h
client-wants w k (Some c) third ask h f t a = wants w k c third ask (free_id c.client) h (f c refl) t a

client-ends : (w : World) (k id : ℕ) (c : Option ClientHost) → Values w → ((x : ClientHost) → c ≡ Some x → HostIsClient x)
    → Values (client_ends w k id c)
client-ends w k id None h f = h
client-ends w k id (Some c) h f =
    let is = f c refl in
    with-host w k (record c { client = after_end c.client id w.clock }) h (is.0, end-value c.client id w.clock is.1)

-- ---- losses

-- the updates that a loss sends are messages
abbrev UpdatesAreTexts : World → Cause → PlainShard → Type 0
UpdatesAreTexts w cause shard = (base : ℕ) → AllByRecursion OutIsText (updates_by shard.state (raised (second w) shard) base cause)

abbrev pub EventTells : World → Event → Type 0
EventTells w (Fails place cause) = (shard : PlainShard) → slice_get w.house.shards place ≡ Some shard → UpdatesAreTexts w cause shard
EventTells w event = ⊤

all-told : (w : World) (n epoch : ℕ) (outs : List Datagram) → AreOctets w.server.0 → AllByRecursion OutIsText outs
    → AllByRecursion PacketIsMessage (map (told_now w n epoch) outs)
all-told w n epoch [] s h = tt
all-told w n epoch (out ∷ outs) s h = ((h.0, s), all-told w n epoch outs s h.1)

loss : ValueLaws → (w : World) (place : ℕ) (shard : PlainShard) (cause : Cause) (after : PlainHouse) → Values w
    → AllByRecursion ShardIsValue after.shards → UpdatesAreTexts w cause shard → Values (lost w place shard cause after)
loss laws w place shard cause after h s u =
    let m = raised (second w) shard in
    let base = greatest_base after in
    record {
      server = h.server;
      shards = s;
      relays = h.relays;
      clients = h.clients;
      bag = All-append PacketIsMessage (map (told_now w (length w.losses + 1) (epoch_of m base)) (told_by shard.state m base cause)) w.bag
          (all-told w (length w.losses + 1) (epoch_of m base) (told_by shard.state m base cause) h.server (announced-message laws.octets m base, u base)) h.bag;
    }

fails-at : ValueLaws → (w : World) (place : ℕ) (cause : Cause) (shard : Option PlainShard) → Values w → IsEventValue (Fails place cause)
    → ((x : PlainShard) → shard ≡ Some x → UpdatesAreTexts w cause x) → Values (fails w place cause shard)
fails-at laws w place cause None h v u = h
fails-at laws w place cause (Some shard) h v u =
    let after = house_after w.house place shard (raised (second w) shard) cause in
    cond_both (is_loss shard cause) (lost w place shard cause after) w Values
    (λ _. loss laws w place shard cause after h (loss-value w.house place shard (raised (second w) shard) cause v h.shards) (u shard refl)) (λ _. h)

-- ---- all

pub next-values : ValueLaws → (w : World) (e : Event) → IsEventValue e → EventTells w e → Values w → Values (happens w e)
next-values laws w (ToServer p) v u h =
    to-server laws w (slice_get w.bag p) h (λ x there. All-got PacketIsMessage w.bag p x h.bag there)
next-values laws w (ToRelay p k) v u h =
    to-relay laws w k (slice_get w.relays k) (slice_get w.bag p) h
    (λ x there. All-got HostIsRelay w.relays k x h.relays there) (λ x there. All-got PacketIsMessage w.bag p x h.bag there)
next-values laws w (ToClient p k word) v u h =
    to-client laws w k word (slice_get w.clients k) (slice_get w.bag p) h
    (λ x there. All-got HostIsClient w.clients k x h.clients there) (λ x there. All-got PacketIsMessage w.bag p x h.bag there)
next-values laws w (RelayTicks k) v u h =
    relay-ticks w k (slice_get w.relays k) h (λ x there. All-got HostIsRelay w.relays k x h.relays there)
next-values laws w (ClientTicks k word) v u h =
    client-ticks laws w k word (slice_get w.clients k) h (λ x there. All-got HostIsClient w.clients k x h.clients there)
next-values laws w (Wants k third ask) v u h =
    client-wants w k (slice_get w.clients k) third ask h (λ x there. All-got HostIsClient w.clients k x h.clients there) v.0 v.1
next-values laws w (Ends k id) v u h =
    client-ends w k id (slice_get w.clients k) h (λ x there. All-got HostIsClient w.clients k x h.clients there)
next-values laws w (Fails place cause) v u h = fails-at laws w place cause (slice_get w.house.shards place) h v u
next-values laws w Announces v u h = record {
  server = h.server;
  shards = h.shards;
  relays = h.relays;
  clients = h.clients;
  bag = ((announced-message laws.octets (second w) (greatest_base w.house), h.server), h.bag);
}
next-values laws w (Passes ms) v u h =
    record { server = h.server; shards = h.shards; relays = h.relays; clients = h.clients; bag = h.bag }

-- ---- the beginning

shards-begin : (xs : List External) (ss : List State) → AllByRecursion (λ x. IsAddressValue x.address) xs
    → AllByRecursion ShardIsValue (shards_begun xs ss)
shards-begin [] ss h = tt
shards-begin (x ∷ xs) [] h = tt
shards-begin (x ∷ xs) (s ∷ ss) h = (h.0, shards-begin xs ss h.1)

relays-begin : (ts : List RelayTerms) → AllByRecursion IsRelayValue ts → AllByRecursion HostIsRelay (map relay_begun ts)
relays-begin [] h = tt
relays-begin (t ∷ ts) h = (
  (record { own = h.0.own.1; waits = tt }, All-weaker IsAddressValue IsSender (λ a is. is.1) t.inner h.0.inner),
  relays-begin ts h.1,
)

no-values : (n : ℕ) → AllByRecursion SlotIsValue (replicate n None)
no-values zero = tt
no-values (suc n) = (tt, no-values n)

clients-begin : (ts : List ClientTerms) → AllByRecursion (λ t. IsAddressValue t.own × IsAddressValue t.server) ts
    → AllByRecursion HostIsClient (map client_begun ts)
clients-begin [] h = tt
clients-begin (t ∷ ts) h = ((h.0.0.1, no-values 64), clients-begin ts h.1)

pub begin-values : (b : Beginning) → AreHosts b → Values (begun b)
begin-values b h = record {
  server = h.server.1;
  shards = shards-begin b.config.externals b.openings h.externals;
  relays = relays-begin b.relays h.relays;
  clients = clients-begin b.clients h.clients;
  bag = tt;
}
