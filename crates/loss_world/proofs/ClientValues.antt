-- What a client asks for is of octets, and so is each request that it sends.
use Rattle.std.specs.Prelude.{⊤, map}
use Rattle.std.specs.List.{AllByRecursion}
use Rattle.std.specs.Option.{option_map, option_to_list}
use Rattle.std.proofs.Common.{◌≡◌, ℕ, zero, suc, ◌<◌, Bool, true, false, List, [], ◌∷◌, ◌++◌, Option, Some, None, sym, subst, arith}
use Rattle.std.proofs.lemmas.Bool.{cond_both}
use Rattle.pcp_base.proofs.Members.{All-append}
use Rattle.pcp_base.specs.declared.addresses.Address.{Address}
use Rattle.pcp_base.specs.declared.asks.Ask.{Ask}
use Rattle.pcp_base.specs.declared.asks.Ask.TheVariants as Asks
use Rattle.pcp_base.specs.declared.asks.PortSet as Sets
use Rattle.pcp_base.specs.declared.datagrams.Datagram.{Datagram}
use Rattle.pcp_base.specs.declared.leases.Filter as Filters
use Rattle.pcp_base.specs.declared.leases.Protocol.{Protocol}
use Rattle.pcp_base.specs.declared.leases.Protocol.TheVariants.{Tcp, Udp}
use Rattle.pcp_base.specs.Protocols.{protocol_number}
use Rattle.pcp_codec.specs.declared.requests.Body.{Body}
use Rattle.pcp_codec.specs.declared.requests.Body.TheVariants.{Announce, Map, Peer}
use Rattle.pcp_codec.specs.declared.requests.Common.{Common}
use Rattle.pcp_options.specs.declared.options.Item.TheVariants.{Filter, PortSet}
use Rattle.pcp_options.specs.Requests.{asked_body, asked_items, asked_lifetime, asked_preference, asked_third, request_text}
use Rattle.pcp_options.specs.Responses.{AreOctets}
use Rattle.option_laws.specs.Octets.{OctetsAreRead, OctetsBody, OctetsItem, RequestsAreOctets}
use Rattle.client_core.specs.declared.events.Event.{Event}
use Rattle.client_core.specs.declared.events.Event.TheVariants.{Sent, Taken, Refused, Ended, Dropped, Invalid}
use Rattle.client_core.specs.declared.events.Grant.{Grant}
use Rattle.client_core.specs.declared.meanings.Meaning.{Meaning}
use Rattle.client_core.specs.declared.meanings.Meaning.TheVariants.{Nothing, Says}
use Rattle.client_core.specs.declared.meanings.Notice.{Notice}
use Rattle.client_core.specs.declared.meanings.Notice.TheVariants as Notices
use Rattle.client_core.specs.declared.reasons.Reason.{Reason}
use Rattle.client_core.specs.declared.reasons.Reason.TheVariants.{Wait, Renewal, Error}
use Rattle.client_core.specs.Clients.{ClientView, after_asked, after_end, after_epoch, after_heard, after_meaning, after_tick, after_want, counted, dropped_in, first_due, happened, happened_at, meaning_of, moves, request_due, request_for, request_in, with_notice}
use Rattle.client_core.specs.Meanings.{want_at}
use Rattle.client_core.specs.Wants.{WantView, after, after_sent, begun_want, deletion_of, is_over, next_ask, suggesting}
use Rattle.loss_world.specs.Disclosure.{HasCommon}
use Rattle.loss_world.specs.Worlds.{IsAskValue, IsThirdValue}
use Rattle.loss_world.proofs.Held.{Granting, IsGrantOf, means}
use Rattle.loss_world.proofs.HouseFacts.{All-set}

abbrev WantIsValue : WantView → Type 0
WantIsValue w = IsThirdValue w.third × IsAskValue w.ask

abbrev pub SlotIsValue : Option WantView → Type 0
SlotIsValue None = ⊤
SlotIsValue (Some w) = WantIsValue w

-- ---- what an event makes of a want

abbrev EventIsValue : Event → Type 0
EventIsValue (Taken at word grant) = AreOctets grant.address.0
EventIsValue (Sent at word) = ⊤
EventIsValue (Refused at seconds) = ⊤
EventIsValue (Ended at) = ⊤
EventIsValue Dropped = ⊤
EventIsValue (Invalid at word) = ⊤

suggested : (ask : Ask) (port : ℕ) (address : Address) → AreOctets address.0 → IsAskValue ask
    → IsAskValue (suggesting ask port address)
suggested (Asks.Map ask) port address a h = (h.0, a, h.2)
suggested (Asks.Peer ask) port address a h = (h.0, a, h.2)
suggested (Asks.Known refusal) port address a h = tt
suggested Asks.Announce port address a h = tt

sent-value : (w : WantView) (at word : ℕ) (reason : Reason) → WantIsValue w → WantIsValue (after_sent w at word reason)
sent-value w at word (Wait wait) h = h
sent-value w at word (Renewal part) h = h
sent-value w at word Error h = h

after-value : (w : WantView) (e : Event) → EventIsValue e → WantIsValue w → WantIsValue (after w e)
after-value w (Sent at word) v h = sent-value w at word w.reason h
after-value w (Taken at word grant) v h = (h.0, suggested w.ask grant.external grant.address v h.1)
after-value w (Refused at seconds) v h = h
after-value w (Ended at) v h = h
after-value w Dropped v h = h
after-value w (Invalid at word) v h = h

slot-value : (e : Event) (x : Option WantView) → EventIsValue e → SlotIsValue x → SlotIsValue (happened e x)
slot-value e None v h = tt
slot-value e (Some w) v h = after-value w e v h

-- ---- and of all wants

value-at : (xs : List (Option WantView)) (i : ℕ) → AllByRecursion SlotIsValue xs → SlotIsValue (want_at xs i)
value-at [] i h = tt
value-at (x ∷ xs) zero h = h.0
value-at (x ∷ xs) (suc i) h = value-at xs i h.1

event-value : (xs : List (Option WantView)) (id : ℕ) (e : Event) → EventIsValue e → AllByRecursion SlotIsValue xs
    → AllByRecursion SlotIsValue (happened_at xs id e)
event-value xs id e v h =
    All-set SlotIsValue xs id (happened e (want_at xs id)) h (slot-value e (want_at xs id) v (value-at xs id h))

all-values : (f : Option WantView → Option WantView) → ((x : Option WantView) → SlotIsValue x → SlotIsValue (f x))
    → (xs : List (Option WantView)) → AllByRecursion SlotIsValue xs → AllByRecursion SlotIsValue (map f xs)
all-values f g [] h = tt
all-values f g (x ∷ xs) h = (g x h.0, all-values f g xs h.1)

-- ---- what a datagram makes of them

abbrev NoticeIsValue : Notice → Type 0
NoticeIsValue Notices.Epoch = ⊤
NoticeIsValue (Notices.Grants id grant) = AreOctets grant.address.0
NoticeIsValue (Notices.Refuses id code seconds) = ⊤
NoticeIsValue (Notices.Removes id) = ⊤

common-of : (body : Body) (c : Common) → OctetsBody body → HasCommon body c → AreOctets c.address.0
common-of Announce c h has = absurd has
common-of (Map a) c h has = subst (λ (x : Common). AreOctets x.address.0) has h.2
common-of (Peer a port remote) c h has = subst (λ (x : Common). AreOctets x.address.0) has h.0.2

granted-value : OctetsAreRead → (octets : List ℕ) (wants : List (Option WantView)) (id : ℕ) (grant : Grant)
    → AreOctets octets → IsGrantOf octets wants id grant → AreOctets grant.address.0
granted-value law octets wants id grant are g =
    let read = law octets g.response are g.read in
    subst (λ (x : Grant). AreOctets x.address.0) (sym g.grant_is) (common-of g.response.body g.common read.0 g.has)

notice-value : OctetsAreRead → (octets : List ℕ) (wants : List (Option WantView)) (epoch : ℕ) (said : Notice)
    → AreOctets octets → Granting octets wants (Says epoch said) → NoticeIsValue said
notice-value law octets wants epoch Notices.Epoch are g = tt
notice-value law octets wants epoch (Notices.Grants id grant) are g = granted-value law octets wants id grant are g
notice-value law octets wants epoch (Notices.Refuses id code seconds) are g = tt
notice-value law octets wants epoch (Notices.Removes id) are g = tt

with-value : (wants : List (Option WantView)) (at word : ℕ) (said : Notice) → NoticeIsValue said
    → AllByRecursion SlotIsValue wants → AllByRecursion SlotIsValue (with_notice wants at word said)
with-value wants at word Notices.Epoch v h = h
with-value wants at word (Notices.Grants id grant) v h = event-value wants id (Taken at word grant) v h
with-value wants at word (Notices.Refuses id code seconds) v h = event-value wants id (Refused at seconds) tt h
with-value wants at word (Notices.Removes id) v h = All-set SlotIsValue wants id None h tt

epoch-value : (c : ClientView) (epoch at word : ℕ) → AllByRecursion SlotIsValue c.wants
    → AllByRecursion SlotIsValue (after_epoch c epoch at word).wants
epoch-value c epoch at word h =
    cond_both (moves c epoch at) (map (happened (Invalid at word)) c.wants) c.wants (AllByRecursion SlotIsValue)
    (λ _. all-values (happened (Invalid at word)) (λ x k. slot-value (Invalid at word) x tt k) c.wants h) (λ _. h)

meaning-value : OctetsAreRead → (octets : List ℕ) (c : ClientView) (at word : ℕ) (m : Meaning)
    → Granting octets c.wants m → AreOctets octets → AllByRecursion SlotIsValue c.wants
    → AllByRecursion SlotIsValue (after_meaning c at word m).wants
meaning-value law octets c at word Nothing g are h = h
meaning-value law octets c at word (Says epoch said) g are h =
    with-value (after_epoch c epoch at word).wants at word said (notice-value law octets c.wants epoch said are g) (epoch-value c epoch at word h)

pub heard-value : OctetsAreRead → (c : ClientView) (d : Datagram) (now word : ℕ) → AreOctets d.octets
    → AllByRecursion SlotIsValue c.wants → AllByRecursion SlotIsValue (after_heard c d now word).wants
heard-value law c d now word are h = meaning-value law d.octets c (counted c now) word (meaning_of c d) (means c d) are h

-- ---- ticks and wants

dropped-value : (at : ℕ) (x : Option WantView) → SlotIsValue x → SlotIsValue (dropped_in at x)
dropped-value at None h = tt
dropped-value at (Some w) h = cond_both (is_over w at) (after w Dropped) w WantIsValue (λ _. h) (λ _. h)

asked-value : (xs : List (Option WantView)) (at word : ℕ) (id : Option ℕ) → AllByRecursion SlotIsValue xs
    → AllByRecursion SlotIsValue (after_asked xs at word id)
asked-value xs at word None h = h
asked-value xs at word (Some id) h = event-value xs id (Sent at word) tt h

pub tick-value : (c : ClientView) (now word : ℕ) → AllByRecursion SlotIsValue c.wants
    → AllByRecursion SlotIsValue (after_tick c now word).wants
tick-value c now word h =
    asked-value (map (dropped_in (counted c now)) c.wants) (counted c now) word (first_due c.wants (counted c now))
    (all-values (dropped_in (counted c now)) (dropped-value (counted c now)) c.wants h)

pub want-value : (c : ClientView) (id : ℕ) (third : Option Address) (ask : Ask) (now : ℕ) → IsThirdValue third
    → IsAskValue ask → AllByRecursion SlotIsValue c.wants → AllByRecursion SlotIsValue (after_want c id third ask now).wants
want-value c id third ask now t a h = All-set SlotIsValue c.wants id (Some (begun_want third ask (counted c now))) h (t, a)

pub end-value : (c : ClientView) (id now : ℕ) → AllByRecursion SlotIsValue c.wants
    → AllByRecursion SlotIsValue (after_end c id now).wants
end-value c id now h = event-value c.wants id (Ended (counted c now)) tt h

-- ---- requests

protocol-octet : (p : Protocol) → protocol_number p < 256
protocol-octet Tcp = omega arith
protocol-octet Udp = omega arith

deletion-value : (ask : Ask) → IsAskValue ask → IsAskValue (deletion_of ask)
deletion-value (Asks.Map ask) h = (h.0, h.1, tt)
deletion-value (Asks.Peer ask) h = h
deletion-value (Asks.Known refusal) h = tt
deletion-value Asks.Announce h = tt

next-value : (w : WantView) → WantIsValue w → IsAskValue (next_ask w)
next-value w h = cond_both w.ending (deletion_of w.ask) w.ask IsAskValue (λ _. deletion-value w.ask h.1) (λ _. h.1)

body-value : (ask : Ask) → IsAskValue ask → OctetsBody (asked_body ask)
body-value (Asks.Known refusal) h = tt
body-value Asks.Announce h = tt
body-value (Asks.Map ask) h = (h.0, protocol-octet ask.endpoint.protocol, h.1)
body-value (Asks.Peer ask) h = ((h.0, protocol-octet ask.endpoint.protocol, h.1), h.2)

third-value : (third : Option Address) → IsThirdValue third → AllByRecursion OctetsItem (asked_third third)
third-value None h = tt
third-value (Some a) h = (h, tt)

preference-value : (b : Bool) → AllByRecursion OctetsItem (asked_preference b)
preference-value true = (tt, tt)
preference-value false = tt

filters-value : (fs : List Filters.Filter) → AllByRecursion (λ f. OctetsItem (Filter f)) fs → AllByRecursion OctetsItem (map Filter fs)
filters-value [] h = tt
filters-value (f ∷ fs) h = (h.0, filters-value fs h.1)

set-value : (set : Option Sets.PortSet) → AllByRecursion OctetsItem (option_to_list (option_map PortSet set))
set-value None = tt
set-value (Some set) = (tt, tt)

items-value : (third : Option Address) (ask : Ask) → IsThirdValue third → IsAskValue ask → AllByRecursion OctetsItem (asked_items third ask)
items-value third (Asks.Known refusal) t h = tt
items-value third Asks.Announce t h = tt
items-value third (Asks.Map ask) t h =
    All-append OctetsItem (asked_third third ++ asked_preference ask.prefer ++ map Filter ask.filters) (option_to_list (option_map PortSet ask.set))
    (All-append OctetsItem (asked_third third ++ asked_preference ask.prefer) (map Filter ask.filters)
    (All-append OctetsItem (asked_third third) (asked_preference ask.prefer) (third-value third t) (preference-value ask.prefer))
    (filters-value ask.filters h.2)) (set-value ask.set)
items-value third (Asks.Peer ask) t h = third-value third t

request-value : RequestsAreOctets → (own : Address) (x : Option WantView) (octets : List ℕ) → AreOctets own.0
    → SlotIsValue x → request_in own x ≡ Some octets → AreOctets octets
request-value law own None octets o h e = absurd cc
request-value law own (Some w) octets o h e =
    let ask = next_ask w in
    let same : request_text own w.third ask ≡ octets = cc in
    let a = next-value w h in
    subst AreOctets same (law own (asked_lifetime ask) (asked_body ask) (asked_items w.third ask) o (body-value ask a) (items-value w.third ask h.0 a))

for-value : RequestsAreOctets → (c : ClientView) (id : Option ℕ) (octets : List ℕ) → AreOctets c.own.0
    → AllByRecursion SlotIsValue c.wants → request_for c id ≡ Some octets → AreOctets octets
for-value law c None octets o h e = absurd cc
for-value law c (Some id) octets o h e = request-value law c.own (want_at c.wants id) octets o (value-at c.wants id h) e

pub due-value : RequestsAreOctets → (c : ClientView) (now : ℕ) (octets : List ℕ) → AreOctets c.own.0
    → AllByRecursion SlotIsValue c.wants → request_due c now ≡ Some octets → AreOctets octets
due-value law c now octets o h e = for-value law c (first_due c.wants (counted c now)) octets o h e
