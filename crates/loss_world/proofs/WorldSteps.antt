-- Each event keeps what holds of a world.
use Rattle.std.specs.Prelude.{max, map, position, slice_get}
use Rattle.std.specs.List.{AllByRecursion}
use Rattle.std.proofs.Common.{◌≡◌, ℕ, ◌+◌, ◌-◌, ◌<◌, ◌≤◌, Bool, true, false, cond, List, [], ◌∷◌, length, Option, Some, None, refl, sym, subst, arith}
use Rattle.std.proofs.lemmas.Bool.{cond_both}
use Rattle.pcp_base.proofs.Members.{All-append, All-weaker}
use Rattle.pcp_base.specs.declared.addresses.Address.{Address}
use Rattle.pcp_base.specs.declared.asks.Ask.{Ask}
use Rattle.pcp_base.specs.declared.datagrams.Datagram.{Datagram}
use Rattle.pcp_base.specs.declared.datagrams.Entry.{Entry}
use Rattle.pcp_base.specs.declared.leases.MapLease.{MapLease}
use Rattle.pcp_base.specs.declared.leases.PeerLease.{PeerLease}
use Rattle.pcp_base.specs.Epoch.{epoch_of}
use Rattle.pcp_base.specs.States.{State}
use Rattle.pcp_base.specs.Tables.{live}
use Rattle.pcp_announce.specs.Updates.{map_update, peer_update}
use Rattle.pcp_options.specs.declared.responses.Response.{Response}
use Rattle.pcp_options.specs.ReadResponses.{response_of}
use Rattle.lease_core.specs.Laws.{DecisionsChangeLeases}
use Rattle.lease_histories.specs.PlainHouses.{PlainHouse, PlainShard, greatest_base, packet_entry, raised}
use Rattle.client_core.specs.declared.meanings.Meaning.{Meaning}
use Rattle.client_core.specs.declared.meanings.Meaning.TheVariants.{Nothing, Says}
use Rattle.client_core.specs.Clients.{ClientView, after_end, after_heard, after_meaning, after_tick, after_want, counted, free_id, meaning_of, request_due}
use Rattle.proxy_core.specs.declared.outs.ProxyOut.{ProxyOut}
use Rattle.proxy_core.specs.declared.outs.ProxyOut.TheVariants as Outs
use Rattle.proxy_core.specs.declared.epochs.Heard.{Heard}
use Rattle.proxy_core.specs.Relays.{Relay, Step, at, on_client, on_server, on_tick, response_from, told_epoch}
use Rattle.loss_world.specs.HouseLosses.{Cause, Loses, Restarts, Renumbers, epoch_to_all, house_after, is_loss, told_by, updates_by, update_to}
use Rattle.loss_world.specs.Packets.{Loss, Origin, Packet, datagram_by, datagram_of, seconds}
use Rattle.loss_world.specs.Steps.{announces, answered, asked, by_door, client_ends, client_ticks, client_wants, comes_down, fails, from_client, from_upstream, happens, hears, is_for, is_reached, leaves_from, lost, origin_after, origin_heard, relay_ticks, relayed, reply_to, second, sends, sent_by, sent_down, to_client, to_relay, to_server, told_now, wanting, with_client, with_relay}
use Rattle.loss_world.specs.Worlds.{ClientHost, RelayHost, World, Event, ToServer, ToRelay, ToClient, RelayTicks, ClientTicks, Wants, Ends, Fails, Announces, Passes}
use Rattle.loss_world.proofs.Announcements.{announced-under}
use Rattle.loss_world.proofs.EpochReads.{IsUnder, TellsAtMost, map-update-under, peer-update-under, told-most}
use Rattle.loss_world.proofs.HouseFacts.{All-got, All-map, All-mapped, All-set, IsBy, IsLost, answers, loses-house}
use Rattle.loss_world.proofs.Invariants.{HasOrigin, HeardBy, HostHeard, IsApart, IsBound, IsClientHost, IsPacket, IsRelay, TellsBy, client-later, loses, packet-later, passes, relay-later}
use Rattle.client_core.specs.declared.meanings.Notice.{Notice}
use Rattle.loss_world.proofs.Saying.{IsSaid, request-none, said}
use Rattle.loss_world.proofs.RelayFacts.{IsOnServer, IsOwn, Passes as PassesOn, on-client, on-server}

-- a loss was not later than now, and the base of the house isn't earlier
pub record IsPast (now count base : ℕ) (l : Loss) : Type 0 where
  pub moment : l.moment ≤ now
  pub base_is : l.moment ≤ base
  pub number : l.number < count

pub record IsWorld (w : World) : Type 0 where
  pub house : IsBy (second w) w.house
  pub losses : AllByRecursion (IsPast (second w) (length w.losses) (greatest_base w.house)) w.losses
  pub relays : AllByRecursion (IsRelay w.clock w.losses) w.relays
  pub clients : AllByRecursion (IsClientHost w.clock w.losses) w.clients
  pub bag : AllByRecursion (IsPacket w.clock w.losses) w.bag

-- ---- packets

sends-more : (w : World) (ps : List Packet) → IsWorld w → AllByRecursion (IsPacket w.clock w.losses) ps → IsWorld (sends w ps)
sends-more w ps h are = record {
  house = h.house;
  losses = h.losses;
  relays = h.relays;
  clients = h.clients;
  bag = All-append (IsPacket w.clock w.losses) ps w.bag are h.bag;
}

with-relay : (w : World) (k : ℕ) (r : RelayHost) → IsWorld w → IsRelay w.clock w.losses r → IsWorld (with_relay w k r)
with-relay w k r h is = record {
  house = h.house;
  losses = h.losses;
  relays = All-set (IsRelay w.clock w.losses) w.relays k r h.relays is;
  clients = h.clients;
  bag = h.bag;
}

with-client : (w : World) (k : ℕ) (c : ClientHost) → IsWorld w → IsClientHost w.clock w.losses c → IsWorld (with_client w k c)
with-client w k c h is = record {
  house = h.house;
  losses = h.losses;
  relays = h.relays;
  clients = All-set (IsClientHost w.clock w.losses) w.clients k c h.clients is;
  bag = h.bag;
}

-- what the server sends now, behind all losses, with the epoch of the greatest base
sent-now : (now base : ℕ) (clock epoch : ℕ) (count : ℕ) (losses : List Loss) → now ≡ seconds clock → epoch ≤ now - base → AllByRecursion (IsPast now count base) losses →
    AllByRecursion (IsApart (record { losses = count; sent = clock; epoch = epoch })) losses
sent-now now base clock epoch count [] is most h = tt
sent-now now base clock epoch count (l ∷ ls) is most h =
    let moment = h.0.moment in
    let base_is = h.0.base_is in
    let number = h.0.number in (
      record { before = λ less. omega (arith, moment, base_is, is, most); behind = λ more. absurd (omega (arith, more, number)) },
      sent-now now base clock epoch count ls is most h.1,
    )

told : (w : World) (losses : List Loss) (base epoch : ℕ) (out : Datagram) → epoch ≤ second w - base →
    AllByRecursion (IsPast (second w) (length losses) base) losses → TellsAtMost out.octets epoch → IsPacket w.clock losses (told_now w (length losses) epoch out)
told w losses base epoch out most past under = record {
  sent = omega arith;
  origin = record { sent = omega arith; count = omega arith; apart = sent-now (second w) base w.clock epoch (length losses) losses refl most past };
  told = λ r read. let e = under r read in record { sent = omega arith; most = omega (arith, e) };
}

-- ---- relays

own-told : (w : World) (r : RelayHost) (sent : Datagram) (a : Address) → IsRelay w.clock w.losses r → IsOwn (at r.relay w.clock) sent.octets → IsPacket w.clock w.losses (relayed w r.origin sent a)
own-told w r sent a h own = record { sent = omega arith; origin = h.origin; told = tells r.origin own.heard (subst (λ x. HeardBy r.origin x r.relay.last) own.was h.heard) own.told }
  where
    tells : (o : Option Origin) (x : Heard) → HeardBy o (Some x) r.relay.last → IsUnder sent.octets (told_epoch x (max r.relay.last w.clock)) → TellsBy o sent.octets w.clock
    tells None x k under = absurd k
    tells (Some o) x k under = λ answer read.
        let e = told-most sent.octets (told_epoch x (max r.relay.last w.clock)) answer under read in
        let last = h.last in
        let late = k.1 in
        let sent = k.0.sent in
        let most = k.0.most in
        record { sent = omega (arith, last, late, sent); most = omega (arith, e, last, late, sent, most) }

sent-up : (w : World) (r : RelayHost) (out : ProxyOut) → IsRelay w.clock w.losses r → ((sent : Datagram) → out ≡ Outs.Reply sent → IsOwn (at r.relay w.clock) sent.octets) →
    ((octets : List ℕ) → out ≡ Outs.Up octets → response_of octets ≡ None) → AllByRecursion (IsPacket w.clock w.losses) (sent_by w r out)
sent-up w r Outs.Nothing h own up = tt
sent-up w r (Outs.Reply sent) h own up =
    All-mapped (IsPacket w.clock w.losses) (relayed w r.origin sent) (λ a. own-told w r sent a h (own sent refl)) (leaves_from r.inner sent)
sent-up w r (Outs.Up octets) h own up = (record { sent = omega arith; origin = tt; told = up octets refl }, tt)

-- a relay whose time went on, and that heard what it had heard
still-heard : (o : Option Origin) (a b : Option Heard) (last later : ℕ) → b ≡ a → last ≤ later → HeardBy o a last → HeardBy o b later
still-heard None None None last later e le h = tt
still-heard None None (Some y) last later e le h = absurd cc
still-heard None (Some x) b last later e le h = absurd h
still-heard (Some o) None None last later e le h = tt
still-heard (Some o) None (Some y) last later e le h = absurd cc
still-heard (Some o) (Some x) None last later e le h = absurd cc
still-heard (Some o) (Some x) (Some y) last later e le h =
    let same : x ≡ y = cc in
    let late = h.1 in
    subst (λ z. IsBound o z.epoch z.at_ms × (z.at_ms ≤ later)) same (h.0, omega (arith, late, le))

from-client : (w : World) (k : ℕ) (r : RelayHost) (p : Packet) (door : ℕ) → IsWorld w → IsRelay w.clock w.losses r → IsWorld (from_client w k r p door)
from-client w k r p door h is =
    let d = datagram_by door p in
    let f = on-client r.relay d w.clock in
    let last = is.last in
    let clock = f.last in
    let after : IsRelay w.clock w.losses (record r { relay = (on_client r.relay d w.clock).relay }) = record {
      last = omega (arith, clock, last);
      origin = is.origin;
      heard = still-heard r.origin r.relay.heard (on_client r.relay d w.clock).relay.heard r.relay.last (on_client r.relay d w.clock).relay.last f.heard (omega (arith, clock)) is.heard;
    } in
    sends-more (with_relay w k (record r { relay = (on_client r.relay d w.clock).relay })) (sent_by w r (on_client r.relay d w.clock).out)
    (with-relay w k (record r { relay = (on_client r.relay d w.clock).relay }) h after)
    (sent-up w r (on_client r.relay d w.clock).out is f.own f.up)

by-door : (w : World) (k : ℕ) (r : RelayHost) (p : Packet) (door : Option ℕ) → IsWorld w → IsRelay w.clock w.losses r → IsWorld (by_door w k r p door)
by-door w k r p None h is = h
by-door w k r p (Some door) h is = from-client w k r p _ h is

-- what comes from upstream

bound-later : (o : Option Origin) (octets : List ℕ) (r : Response) (sent now last : ℕ) → TellsBy o octets sent → response_of octets ≡ Some r → sent ≤ now → now ≤ last →
    HeardBy o (Some (record { epoch = r.epoch; at_ms = now })) last
bound-later None octets r sent now last h read le past = absurd cc
bound-later (Some o) octets r sent now last h read le past =
    let b = h r read in
    let was = b.sent in
    let most = b.most in
    (record { sent = omega (arith, was, le); most = omega (arith, most, was, le) }, past)

hears-relay : (w : World) (r : RelayHost) (p : Packet) (read : Option Response) (step : Step (Option Datagram)) → IsRelay w.clock w.losses r → IsPacket w.clock w.losses p →
    ((x : Response) → read ≡ Some x → response_of p.out.octets ≡ Some x) → IsOnServer (at r.relay w.clock) read step →
    IsRelay w.clock w.losses (record r { relay = step.relay; origin = origin_after read p.origin r.origin })
hears-relay w r p None step h is f on =
    let clock = on.last in
    let last = h.last in
    record {
      last = omega (arith, clock, last);
      origin = h.origin;
      heard = still-heard r.origin r.relay.heard step.relay.heard r.relay.last step.relay.last on.heard (omega (arith, clock)) h.heard;
    }
hears-relay w r p (Some x) step h is f on =
    let clock = on.last in
    let last = h.last in
    let sent = is.sent in
    record {
      last = omega (arith, clock, last);
      origin = is.origin;
      heard = subst (λ y. HeardBy p.origin y step.relay.last) (sym on.heard)
          (bound-later p.origin p.out.octets x p.sent (max r.relay.last w.clock) step.relay.last is.told (f x refl) (omega (arith, last, sent)) (omega (arith, clock)));
    }

passes-down : (w : World) (o : Option Origin) (octets text : List ℕ) (r : Response) (sent : ℕ) → TellsBy o octets sent → response_of octets ≡ Some r → sent ≤ w.clock → TellsAtMost text r.epoch → TellsBy o text w.clock
passes-down w None octets text r sent h read le most = absurd cc
passes-down w (Some o) octets text r sent h read le most = λ x k.
    let b = h r read in
    let was = b.sent in
    let than = b.most in
    let e = most x k in
    record { sent = omega (arith, was, le); most = omega (arith, e, than, was, le) }

downs : (w : World) (r : RelayHost) (p : Packet) (read : Option Response) (out : Option Datagram) → IsPacket w.clock w.losses p →
    ((x : Response) → read ≡ Some x → response_of p.out.octets ≡ Some x) → ((sent : Datagram) → out ≡ Some sent → PassesOn read sent.octets) →
    AllByRecursion (IsPacket w.clock w.losses) (sent_down w r p.origin out)
downs w r p read None is f pass = tt
downs w r p None (Some sent) is f pass = absurd (pass sent refl)
downs w r p (Some x) (Some sent) is f pass =
    All-mapped (IsPacket w.clock w.losses) (relayed w p.origin sent)
    (λ a. record {
      sent = omega arith;
      origin = is.origin;
      told = passes-down w p.origin p.out.octets sent.octets x p.sent is.told (f x refl) is.sent (pass sent refl);
    }) (leaves_from r.inner sent)

read-here : (b : Bool) (x : Option Response) (r : Response) → cond b x None ≡ Some r → x ≡ Some r
read-here true x r h = h
read-here false x r h = absurd cc

from-upstream : (w : World) (k : ℕ) (r : RelayHost) (p : Packet) → IsWorld w → IsRelay w.clock w.losses r → IsPacket w.clock w.losses p → IsWorld (from_upstream w k r p)
from-upstream w k r p h is packet =
    let d = datagram_of p in
    let on = on-server r.relay d w.clock in
    let read : (x : Response) → response_from r.relay.server d ≡ Some x → response_of p.out.octets ≡ Some x = λ x e. read-here _ (response_of p.out.octets) x e in
    let host : RelayHost = record r { relay = (on_server r.relay d w.clock).relay; origin = origin_after (response_from r.relay.server d) p.origin r.origin } in
    sends-more (with_relay w k host) (sent_down w r p.origin (on_server r.relay d w.clock).out)
    (with-relay w k host h (hears-relay w r p (response_from r.relay.server d) (on_server r.relay d w.clock) is packet read on))
    (downs w r p (response_from r.relay.server d) (on_server r.relay d w.clock).out packet read on.passed)

to-relay : (w : World) (k : ℕ) (r : Option RelayHost) (p : Option Packet) → IsWorld w → ((x : RelayHost) → r ≡ Some x → IsRelay w.clock w.losses x) → ((x : Packet) → p ≡ Some x → IsPacket w.clock w.losses x) →
    IsWorld (to_relay w k r p)
to-relay w k None p h f g = h
to-relay w k (Some r) None h f g = h
to-relay w k (Some r) (Some p) h f g =
    cond_both (comes_down p r.relay) (from_upstream w k r p) (by_door w k r p (position (is_for p) r.inner)) IsWorld
    (λ _. from-upstream w k r p h (f r refl) (g p refl)) (λ _. by-door w k r p (position (is_for p) r.inner) h (f r refl))

relay-ticks : (w : World) (k : ℕ) (r : Option RelayHost) → IsWorld w → ((x : RelayHost) → r ≡ Some x → IsRelay w.clock w.losses x) → IsWorld (relay_ticks w k r)
relay-ticks w k None h f = h
relay-ticks w k (Some r) h f =
    let is = f r refl in
    let last = is.last in
    with-relay w k (record r { relay = (on_tick r.relay w.clock).relay }) h (record {
      last = omega (arith, last);
      origin = is.origin;
      heard = still-heard r.origin r.relay.heard r.relay.heard r.relay.last (max r.relay.last w.clock) refl (omega arith) is.heard;
    })

-- ---- clients

heard-last : (c : ClientView) (now word : ℕ) (m : Meaning) → (after_meaning c now word m).last ≡ now
heard-last c now word Nothing = refl
heard-last c now word (Says epoch said) = refl

-- what says an epoch has an origin
heard-origin : (c : ClientView) (now word : ℕ) (m : Meaning) (came last : Option Origin) (octets : List ℕ) (sent : ℕ) → sent ≤ now → ((epoch : ℕ) (w : Notice) → m ≡ Says epoch w → IsSaid octets epoch) → TellsBy came octets sent → HostHeard last c.heard →
    HostHeard (origin_heard m came last) (after_meaning c now word m).heard
heard-origin c now word Nothing came last octets sent le f h is = is
heard-origin c now word (Says epoch said) None last octets sent le f h is =
    let s = f epoch said refl in
    let read = s.read in
    absurd cc
heard-origin c now word (Says epoch said) (Some o) last octets sent le f h is =
    let s = f epoch said refl in
    let b = h s.response s.read in
    let was = b.sent in
    let most = b.most in
    let same = s.epoch_is in
    record { sent = omega (arith, was, le); most = omega (arith, was, le, most, same) }

origin-of : (w : World) (m : Meaning) (came last : Option Origin) → HasOrigin w.clock w.losses came → HasOrigin w.clock w.losses last → HasOrigin w.clock w.losses (origin_heard m came last)
origin-of w Nothing came last a b = b
origin-of w (Says epoch said) came last a b = a

to-client : (w : World) (k word : ℕ) (c : Option ClientHost) (p : Option Packet) → IsWorld w → ((x : ClientHost) → c ≡ Some x → IsClientHost w.clock w.losses x) → ((x : Packet) → p ≡ Some x → IsPacket w.clock w.losses x) →
    IsWorld (to_client w k word c p)
to-client w k word None p h f g = h
to-client w k word (Some c) None h f g = h
to-client w k word (Some c) (Some p) h f g =
    let is = f c refl in
    let last = is.last in
    let packet = g p refl in
    let at = heard-last c.client (counted c.client w.clock) word (meaning_of c.client (datagram_of p)) in
    let sent = packet.sent in
    cond_both (is_reached p c.client.own c.client.server) (hears w k c p word) w IsWorld (λ _. with-client w k (record c {
      client = after_heard c.client (datagram_of p) w.clock word;
      origin = origin_heard (meaning_of c.client (datagram_of p)) p.origin c.origin;
    }) h (record {
      last = omega (arith, at, last);
      origin = origin-of w (meaning_of c.client (datagram_of p)) p.origin c.origin packet.origin is.origin;
      heard = heard-origin c.client (counted c.client w.clock) word (meaning_of c.client (datagram_of p)) p.origin c.origin p.out.octets p.sent (omega (arith, sent))
          (λ epoch w e. said c.client (datagram_of p) epoch w e) packet.told is.heard;
    })) (λ _. h)

asks : (w : World) (c : ClientHost) (octets : Option (List ℕ)) → ((text : List ℕ) → octets ≡ Some text → response_of text ≡ None) → AllByRecursion (IsPacket w.clock w.losses) (asked w c octets)
asks w c None none = tt
asks w c (Some octets) none = (record { sent = omega arith; origin = tt; told = none octets refl }, tt)

client-ticks : (w : World) (k word : ℕ) (c : Option ClientHost) → IsWorld w → ((x : ClientHost) → c ≡ Some x → IsClientHost w.clock w.losses x) → IsWorld (client_ticks w k word c)
client-ticks w k word None h f = h
client-ticks w k word (Some c) h f =
    let is = f c refl in
    let last = is.last in
    let host = record c { client = after_tick c.client w.clock word } in
    sends-more (with_client w k host) (asked w c (request_due c.client w.clock))
    (with-client w k host h (record { last = omega (arith, last); origin = is.origin; heard = is.heard }))
    (asks w c (request_due c.client w.clock) (λ text e. request-none c.client w.clock text e))

wants : (w : World) (k : ℕ) (c : ClientHost) (third : Option Address) (ask : Ask) (id : Option ℕ) → IsWorld w → IsClientHost w.clock w.losses c → IsWorld (wanting w k c third ask id)
wants w k c third ask None h is = h
wants w k c third ask (Some id) h is =
    let last = is.last in
    with-client w k (record c { client = after_want c.client id third ask w.clock }) h (record { last = omega (arith, last); origin = is.origin; heard = is.heard })

client-wants : (w : World) (k : ℕ) (c : Option ClientHost) (third : Option Address) (ask : Ask) → IsWorld w → ((x : ClientHost) → c ≡ Some x → IsClientHost w.clock w.losses x) → IsWorld (client_wants w k c third ask)
client-wants w k None third ask h f = h
client-wants w k (Some c) third ask h f = wants w k c third ask (free_id c.client) h (f c refl)

client-ends : (w : World) (k id : ℕ) (c : Option ClientHost) → IsWorld w → ((x : ClientHost) → c ≡ Some x → IsClientHost w.clock w.losses x) → IsWorld (client_ends w k id c)
client-ends w k id None h f = h
client-ends w k id (Some c) h f =
    let is = f c refl in
    let last = is.last in
    with-client w k (record c { client = after_end c.client id w.clock }) h (record { last = omega (arith, last); origin = is.origin; heard = is.heard })

-- ---- the server

answer : DecisionsChangeLeases → (w : World) (d : Datagram) (e : Option Entry) → IsWorld w → packet_entry w.house (second w) d ≡ e → IsWorld (answered w d e)
answer law w d None h is = h
answer law w d (Some e) h is =
    let a = answers law (second w) w.house d e h.house is in
    let base = a.base in
    let moment = a.moment in
    let most : epoch_of e.moment e.base ≤ second w - greatest_base w.house = omega (arith, base, moment) in
    record {
      house = a.by;
      losses = subst (λ b. AllByRecursion (IsPast (second w) (length w.losses) b) w.losses) (sym a.stays) h.losses;
      relays = h.relays;
      clients = h.clients;
      bag = (told w w.losses (greatest_base w.house) (epoch_of e.moment e.base) (reply_to d e) most h.losses a.reply, h.bag);
    }

to-server : DecisionsChangeLeases → (w : World) (p : Option Packet) → IsWorld w → IsWorld (to_server w p)
to-server law w None h = h
to-server law w (Some p) h =
    cond_both (is_for p w.server) (answered w (datagram_of p) (packet_entry w.house (second w) (datagram_of p))) w IsWorld
    (λ _. answer law w (datagram_of p) (packet_entry w.house (second w) (datagram_of p)) h refl) (λ _. h)

-- ---- losses

map-told : (a : Address) (m base : ℕ) (ls : List MapLease) → AllByRecursion (λ (out : Datagram). IsUnder out.octets (epoch_of m base)) (map (λ l. update_to l.address (map_update l a m base)) ls)
map-told a m base [] = tt
map-told a m base (l ∷ ls) = (map-update-under l a m base, map-told a m base ls)

peer-told : (a : Address) (m base : ℕ) (ls : List PeerLease) → AllByRecursion (λ (out : Datagram). IsUnder out.octets (epoch_of m base)) (map (λ l. update_to l.endpoint.address (peer_update l a m base)) ls)
peer-told a m base [] = tt
peer-told a m base (l ∷ ls) = (peer-update-under l a m base, peer-told a m base ls)

updates-told : (s : State) (m base : ℕ) (cause : Cause) → AllByRecursion (λ (out : Datagram). IsUnder out.octets (epoch_of m base)) (updates_by s m base cause)
updates-told s m base Loses = tt
updates-told s m base Restarts = tt
updates-told s m base (Renumbers a) =
    All-append (λ (out : Datagram). IsUnder out.octets (epoch_of m base)) (map (λ l. update_to l.address (map_update l a m base)) (live s.table m).maps)
    (map (λ l. update_to l.endpoint.address (peer_update l a m base)) (live s.table m).peers)
    (map-told a m base (live s.table m).maps) (peer-told a m base (live s.table m).peers)

all-told : (s : State) (m base : ℕ) (cause : Cause) → AllByRecursion (λ (out : Datagram). IsUnder out.octets (epoch_of m base)) (told_by s m base cause)
all-told s m base cause = (announced-under m base, updates-told s m base cause)

past-later : (now count more base after : ℕ) → now ≤ after → count ≤ more → (l : Loss) → IsPast now count base l → IsPast now more after l
past-later now count more base after le up l h =
    let moment = h.moment in
    let number = h.number in
    record { moment = moment; base_is = omega (arith, moment, le); number = omega (arith, number, up) }

loss : (w : World) (place : ℕ) (shard : PlainShard) (cause : Cause) (after : PlainHouse) → IsWorld w → raised (second w) shard ≡ second w → IsLost (second w) after → IsWorld (lost w place shard cause after)
loss w place shard cause after h now is =
    let l : Loss = record { number = length w.losses; moment = second w } in
    let on = loses w.clock w.losses l refl refl in
    let base = is.base in
    let past : AllByRecursion (IsPast (second w) (length (l ∷ w.losses)) (greatest_base after)) (l ∷ w.losses) = (
      record { moment = omega arith; base_is = base; number = omega arith },
      All-weaker (IsPast (second w) (length w.losses) (greatest_base w.house)) (IsPast (second w) (length (l ∷ w.losses)) (greatest_base after))
          (past-later (second w) (length w.losses) (length (l ∷ w.losses)) (greatest_base w.house) (greatest_base after) base (omega arith)) w.losses h.losses,
    ) in
    let up : length (l ∷ w.losses) ≡ length w.losses + 1 = omega arith in
    let m = raised (second w) shard in
    let epoch = epoch_of (raised (second w) shard) (greatest_base after) in
    let most : epoch_of (raised (second w) shard) (greatest_base after) ≤ second w - greatest_base after = omega (arith, now) in
    record {
      house = is.by;
      losses = past;
      relays = All-weaker (IsRelay w.clock w.losses) (IsRelay w.clock (l ∷ w.losses)) (relay-later w.clock w.clock w.losses (l ∷ w.losses) on) w.relays h.relays;
      clients = All-weaker (IsClientHost w.clock w.losses) (IsClientHost w.clock (l ∷ w.losses)) (client-later w.clock w.clock w.losses (l ∷ w.losses) on) w.clients h.clients;
      bag = All-append (IsPacket w.clock (l ∷ w.losses)) (map (told_now w (length w.losses + 1) epoch) (told_by shard.state m (greatest_base after) cause)) w.bag
          (All-map (λ (out : Datagram). IsUnder out.octets epoch) (IsPacket w.clock (l ∷ w.losses)) (told_now w (length w.losses + 1) epoch)
          (λ out under. subst (λ n. IsPacket w.clock (l ∷ w.losses) (told_now w n epoch out)) up (told w (l ∷ w.losses) (greatest_base after) epoch out most past (λ r read. told-most out.octets epoch r under read))) (told_by shard.state m (greatest_base after) cause) (all-told shard.state m (greatest_base after) cause))
          (All-weaker (IsPacket w.clock w.losses) (IsPacket w.clock (l ∷ w.losses)) (packet-later w.clock w.clock w.losses (l ∷ w.losses) on) w.bag h.bag);
    }

fails-at : (w : World) (place : ℕ) (cause : Cause) (shard : Option PlainShard) → IsWorld w → slice_get w.house.shards place ≡ shard → IsWorld (fails w place cause shard)
fails-at w place cause None h there = h
fails-at w place cause (Some shard) h there =
    let past = All-got (λ (s : PlainShard). s.last ≤ second w) w.house.shards place shard h.house there in
    let now : raised (second w) shard ≡ second w = omega (arith, past) in
    cond_both (is_loss shard cause) (lost w place shard cause (house_after w.house place shard (raised (second w) shard) cause)) w IsWorld
    (λ is. loss w place shard cause (house_after w.house place shard (raised (second w) shard) cause) h now
    (subst (λ m. IsLost (second w) (house_after w.house place shard m cause)) (sym now) (loses-house (second w) w.house place shard cause h.house there is)))
    (λ _. h)

announce : (w : World) (base : ℕ) → base ≡ greatest_base w.house → IsWorld w → IsWorld (announces w base)
announce w base is h =
    let epoch = epoch_of (second w) base in
    let out = epoch_to_all (second w) base in
    let most : epoch_of (second w) base ≤ second w - greatest_base w.house = omega (arith, is) in
    record {
      house = h.house;
      losses = h.losses;
      relays = h.relays;
      clients = h.clients;
      bag = (
        told w w.losses (greatest_base w.house) epoch out most h.losses
            (λ r read. told-most out.octets epoch r (announced-under (second w) base) read),
        h.bag,
      );
    }

-- ---- all

by-later : (m n : ℕ) → m ≤ n → (s : PlainShard) → s.last ≤ m → s.last ≤ n
by-later m n le s h = omega (arith, le, h)

past-on : (now later count base : ℕ) → now ≤ later → (l : Loss) → IsPast now count base l → IsPast later count base l
past-on now later count base le l h = let moment = h.moment in record { moment = omega (arith, moment, le); base_is = h.base_is; number = h.number }

goes-on : (w : World) (ms : ℕ) → IsWorld w → IsWorld (record w { clock = w.clock + ms })
goes-on w ms h =
    let on = passes w.clock ms w.losses in
    let le : seconds w.clock ≤ seconds (w.clock + ms) = omega arith in
    record {
      house = All-weaker (λ (s : PlainShard). s.last ≤ seconds w.clock) (λ (s : PlainShard). s.last ≤ seconds (w.clock + ms)) (by-later (seconds w.clock) (seconds (w.clock + ms)) le) w.house.shards h.house;
      losses = All-weaker (IsPast (seconds w.clock) (length w.losses) (greatest_base w.house)) (IsPast (seconds (w.clock + ms)) (length w.losses) (greatest_base w.house))
          (past-on (seconds w.clock) (seconds (w.clock + ms)) (length w.losses) (greatest_base w.house) le) w.losses h.losses;
      relays = All-weaker (IsRelay w.clock w.losses) (IsRelay (w.clock + ms) w.losses) (relay-later w.clock (w.clock + ms) w.losses w.losses on) w.relays h.relays;
      clients = All-weaker (IsClientHost w.clock w.losses) (IsClientHost (w.clock + ms) w.losses) (client-later w.clock (w.clock + ms) w.losses w.losses on) w.clients h.clients;
      bag = All-weaker (IsPacket w.clock w.losses) (IsPacket (w.clock + ms) w.losses) (packet-later w.clock (w.clock + ms) w.losses w.losses on) w.bag h.bag;
    }

pub next-world : DecisionsChangeLeases → (w : World) (e : Event) → IsWorld w → IsWorld (happens w e)
next-world law w (ToServer p) h = to-server law w (slice_get w.bag p) h
next-world law w (ToRelay p k) h =
    to-relay w k (slice_get w.relays k) (slice_get w.bag p) h
    (λ x there. All-got (IsRelay w.clock w.losses) w.relays k x h.relays there) (λ x there. All-got (IsPacket w.clock w.losses) w.bag p x h.bag there)
next-world law w (ToClient p k word) h =
    to-client w k word (slice_get w.clients k) (slice_get w.bag p) h
    (λ x there. All-got (IsClientHost w.clock w.losses) w.clients k x h.clients there) (λ x there. All-got (IsPacket w.clock w.losses) w.bag p x h.bag there)
next-world law w (RelayTicks k) h = relay-ticks w k (slice_get w.relays k) h (λ x there. All-got (IsRelay w.clock w.losses) w.relays k x h.relays there)
next-world law w (ClientTicks k word) h =
    client-ticks w k word (slice_get w.clients k) h (λ x there. All-got (IsClientHost w.clock w.losses) w.clients k x h.clients there)
next-world law w (Wants k third ask) h =
    client-wants w k (slice_get w.clients k) third ask h (λ x there. All-got (IsClientHost w.clock w.losses) w.clients k x h.clients there)
next-world law w (Ends k id) h = client-ends w k id (slice_get w.clients k) h (λ x there. All-got (IsClientHost w.clock w.losses) w.clients k x h.clients there)
next-world law w (Fails place cause) h = fails-at w place cause (slice_get w.house.shards place) h refl
next-world law w Announces h = announce w (greatest_base w.house) refl h
next-world law w (Passes ms) h = goes-on w ms h
