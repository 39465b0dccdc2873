-- That what waits stands for requests that went up, whatever comes to a relay.
use Rattle.std.proofs.Common.{◌≡◌, ℕ, max, Bool, true, false, cond, nat_lt, ◌||◌, List, [], ◌∷◌, ◌++◌, length, Option, Some, None, refl, ap, sym, ◌∙◌, subst, append_assoc, append-nil, inl, inr, ◌⊎◌}
use Rattle.std.specs.List.{AllByRecursion}
use Rattle.std.specs.Option.{option_map}
use Rattle.std.specs.Map.{lookup, remove_entry}
use Rattle.pcp_base.specs.declared.addresses.Address.{Address}
use Rattle.pcp_base.specs.declared.asks.Ask.{Ask}
use Rattle.pcp_base.specs.declared.asks.Answer.TheVariants.{Refused}
use Rattle.pcp_base.specs.declared.codes.Code.TheVariants.{NoResources}
use Rattle.pcp_base.specs.Refusals.{parsed}
use Rattle.pcp_base.specs.declared.datagrams.Datagram.{Datagram}
use Rattle.pcp_options.specs.declared.options.Item.{Item}
use Rattle.pcp_options.specs.declared.responses.Response.{Response}
use Rattle.pcp_options.specs.declared.verdicts.Verdict.{Verdict}
use Rattle.pcp_options.specs.declared.verdicts.Verdict.TheVariants.{Silent, Refuse, Asked}
use Rattle.pcp_options.specs.Asking.{third_of}
use Rattle.pcp_options.specs.Verdicts.{verdict_of}
use Rattle.pcp_codec.specs.declared.layout.TheConstants.{MESSAGE_OCTETS}
use Rattle.proxy_core.specs.declared.keys.WaitingKey.{WaitingKey}
use Rattle.proxy_core.specs.declared.waits.Waiting.{Waiting}
use Rattle.proxy_core.specs.declared.outs.ProxyOut.{ProxyOut}
use Rattle.proxy_core.specs.declared.outs.ProxyOut.TheVariants.{Up}
use Rattle.pcp_base.specs.declared.addresses.Prefix.{Prefix}
use Rattle.proxy_core.specs.Everyone.{judged_by}
use Rattle.proxy_core.specs.Keys.{is_key, key_of}
use Rattle.proxy_core.specs.Relays.{Relay, Step, new_relay, at, hearing, judged, asked, matched, answered, own_answer, waiting_of, reply_to, on_client, announced, response_from}
use Rattle.proxy_core.specs.Runs.{Event, next, run, WentUp, StandsForPair, IsAnnouncement, RepliesStandForPairs}
use Rattle.proxy_core.specs.Runs.Event.{Client, Server, Tick}
use Rattle.proxy_core.specs.Up.{up_key, up_text}
use Rattle.proxy_core.specs.Waits.{Waits, is_full, is_over, kept, still, waiting_at}
use Rattle.proxy_core.proofs.KeyLemmas.{equal-key}

abbrev Entry : Type 0
Entry = WaitingKey × Waiting

-- ---- what stays

pub record Same (a b : Relay) : Type 0 where
  pub own : a.own ≡ b.own
  pub server : a.server ≡ b.server
  pub key : a.key ≡ b.key
  pub third_party : a.third_party ≡ b.third_party

same-forwarded : (relay : Relay) (d : Datagram) (items : List Item) (k : WaitingKey) (text : List ℕ) (b : Bool) →
    Same (cond {A = Step ProxyOut} b
    (record { relay = relay; out = own_answer relay d (Refused (parsed NoResources)) })
    (record { relay = record relay { waits = kept k (waiting_of d items relay.last) relay.waits }; out = Up text })).relay relay
same-forwarded relay d items k text true = record { own = refl; server = refl; key = refl; third_party = refl }
same-forwarded relay d items k text false = record { own = refl; server = refl; key = refl; third_party = refl }

same-asked : (relay : Relay) (d : Datagram) (items : List Item) (k : Option WaitingKey) → Same (asked relay d items k).relay relay
same-asked relay d items None = record { own = refl; server = refl; key = refl; third_party = refl }
same-asked relay d items (Some k) =
    same-forwarded relay d items k (up_text relay.key relay.own d items) (is_full k relay.waits || nat_lt MESSAGE_OCTETS (length (up_text relay.key relay.own d items)))

same-judged : (relay : Relay) (d : Datagram) (v : Verdict) → Same (judged relay d v).relay relay
same-judged relay d Silent = record { own = refl; server = refl; key = refl; third_party = refl }
same-judged relay d (Refuse r) = record { own = refl; server = refl; key = refl; third_party = refl }
same-judged relay d (Asked place ask items) = same-asked relay d items (up_key relay.key d items)

same-matched : (relay : Relay) (d : Datagram) (r : Response) (k : Option WaitingKey) → Same (matched relay d r k).relay relay
same-matched relay d r None = record { own = refl; server = refl; key = refl; third_party = refl }
same-matched relay d r (Some k) = record { own = refl; server = refl; key = refl; third_party = refl }

same-answered : (relay : Relay) (d : Datagram) (r : Option Response) → Same (answered relay d r).relay relay
same-answered relay d None = record { own = refl; server = refl; key = refl; third_party = refl }
same-answered relay d (Some r) =
    let there = same-matched (hearing relay r.epoch) d r (key_of r.body (third_of r.items)) in
    record { own = there.own; server = there.server; key = there.key; third_party = there.third_party }

pub same-next : (relay : Relay) (e : Event) → Same (next relay e) relay
same-next relay (Client d now) = let there = same-judged (at relay now) d (verdict_of (judged_by relay.third_party) d.peer d.octets) in
    record { own = there.own; server = there.server; key = there.key; third_party = there.third_party }
same-next relay (Server d now) = let there = same-answered (at relay now) d (response_from relay.server d) in
    record { own = there.own; server = there.server; key = there.key; third_party = there.third_party }
same-next relay (Tick now) = record { own = refl; server = refl; key = refl; third_party = refl }

same-run : (relay : Relay) (es : List Event) → Same (run relay es) relay
same-run relay [] = record { own = refl; server = refl; key = refl; third_party = refl }
same-run relay (e ∷ es) =
    let front = same-next relay e in
    let rest = same-run (next relay e) es in
    record {
      own = rest.own ∙ front.own;
      server = rest.server ∙ front.server;
      key = rest.key ∙ front.key;
      third_party = rest.third_party ∙ front.third_party;
    }

run-more : (relay : Relay) (es : List Event) (e : Event) → run relay (es ++ e ∷ []) ≡ next (run relay es) e
run-more relay [] e = refl
run-more relay (x ∷ es) e = run-more (next relay x) es e

-- ---- what waits

-- a request that waits went up
pub record Stands (start : Relay) (events : List Event) (e : Entry) : Type 0 where
  pub request : Datagram
  pub items : List Item
  pub since : ℕ
  pub asked_up : WentUp start events request items
  pub key : up_key start.key request items ≡ Some e.0
  pub waits : e.1 ≡ waiting_of request items since

went-more : (start : Relay) (events more : List Event) (request : Datagram) (items : List Item) → WentUp start events request items → WentUp start (events ++ more) request items
went-more start events more request items w = record {
  before = w.before;
  now = w.now;
  behind = w.behind ++ more;
  came = ap (λ es. es ++ more) w.came ∙ append_assoc w.before (Client request w.now ∷ w.behind) more;
  place = w.place;
  ask = w.ask;
  judged = w.judged;
  went = w.went;
}

stands-more : (start : Relay) (events more : List Event) (e : Entry) → Stands start events e → Stands start (events ++ more) e
stands-more start events more e s = record {
  request = s.request;
  items = s.items;
  since = s.since;
  asked_up = went-more start events more s.request s.items s.asked_up;
  key = s.key;
  waits = s.waits;
}

module _ (P : Entry → Type 0) where
  pub all-removed : (test : WaitingKey → Bool) (es : Waits) → AllByRecursion P es → AllByRecursion P (remove_entry test es)
  all-removed test [] a = tt
  all-removed test (e ∷ es) a = (elim (test e.0) as (λ b. test e.0 ≡ b → AllByRecursion P (remove_entry test (e ∷ es))) [
    | true ↦ λ t. rw t a.1
    | false ↦ λ t. rw t (a.0, all-removed test es a.1)
  ]) refl

  pub all-still : (now : ℕ) (es : Waits) → AllByRecursion P es → AllByRecursion P (still now es)
  all-still now [] a = tt
  all-still now (e ∷ es) a = (elim (is_over now e) as (λ b. is_over now e ≡ b → AllByRecursion P (still now (e ∷ es))) [
    | true ↦ λ t. rw t (all-still now es a.1)
    | false ↦ λ t. rw t (a.0, all-still now es a.1)
  ]) refl

  found : (test : WaitingKey → Bool) (es : Waits) (v : Waiting) → AllByRecursion P es → lookup test es ≡ Some v → (k : WaitingKey) × P (k, v) × (test k ≡ true)
  found test [] v a h = absurd cc
  found test (e ∷ es) v a h = (elim (test e.0) as (λ b. test e.0 ≡ b → (k : WaitingKey) × P (k, v) × (test k ≡ true)) [
    | true ↦ λ t. let h' : Some e.1 ≡ Some v = rw t at h in let same : e.1 ≡ v = cc in (e.0, subst (λ w. P (e.0, w)) same a.0, t)
    | false ↦ λ t. found test es v a.1 (rw t at h)
  ]) refl

all-map : (P Q : Entry → Type 0) → ((e : Entry) → P e → Q e) → (es : Waits) → AllByRecursion P es → AllByRecursion Q es
all-map P Q f [] a = tt
all-map P Q f (e ∷ es) a = (f e a.0, all-map P Q f es a.1)

-- ---- one event more

-- a client's request
went : (start : Relay) (events : List Event) (request : Datagram) (now place : ℕ) (ask : Ask) (items : List Item) →
    verdict_of (judged_by start.third_party) request.peer request.octets ≡ Asked place ask items →
    (on_client (run start events) request now).out ≡ Up (up_text start.key start.own request items) →
    WentUp start (events ++ Client request now ∷ []) request items
went start events request now place ask items judged out = record {
  before = events;
  now = now;
  behind = [];
  came = refl;
  place = place;
  ask = ask;
  judged = judged;
  went = out;
}

module _ (start : Relay) (events : List Event) (d : Datagram) (now : ℕ) where
  abbrev After : Entry → Type 0
  After = Stands start (events ++ Client d now ∷ [])

  abbrev here : Relay
  here = at (run start events) now

  abbrev Gives : Step ProxyOut → Type 0
  Gives step = (on_client (run start events) d now ≡ step) → AllByRecursion After step.relay.waits

  gives-forwarded : (place : ℕ) (ask : Ask) (items : List Item) (k : WaitingKey) (b : Bool) → AllByRecursion After here.waits →
      verdict_of (judged_by here.third_party) d.peer d.octets ≡ Asked place ask items → up_key here.key d items ≡ Some k →
      Gives (cond {A = Step ProxyOut} b
      (record { relay = here; out = own_answer here d (Refused (parsed NoResources)) })
      (record { relay = record here { waits = kept k (waiting_of d items here.last) here.waits }; out = Up (up_text here.key here.own d items) }))
  gives-forwarded place ask items k true all v h is = all
  gives-forwarded place ask items k false all v h is =
      let same = same-run start events in
      let out : (on_client (run start events) d now).out ≡ Up (up_text start.key start.own d items) =
      ap (λ s. s.out) is ∙ ap (λ key. Up (up_text key here.own d items)) same.key ∙ ap (λ own. Up (up_text start.key own d items)) same.own in (
        record {
          request = d;
          items = items;
          since = here.last;
          asked_up = went start events d now place ask items (ap (λ t. verdict_of (judged_by t) d.peer d.octets) (sym same.third_party) ∙ v) out;
          key = ap (λ key. up_key key d items) (sym same.key) ∙ h;
          waits = refl;
        },
        all-removed After (is_key k) here.waits all,
      )

  gives-asked : (place : ℕ) (ask : Ask) (items : List Item) (k : Option WaitingKey) → AllByRecursion After here.waits →
      verdict_of (judged_by here.third_party) d.peer d.octets ≡ Asked place ask items → up_key here.key d items ≡ k → Gives (asked here d items k)
  gives-asked place ask items None all v h is = all
  gives-asked place ask items (Some k) all v h is =
      gives-forwarded place ask items k (is_full k here.waits || nat_lt MESSAGE_OCTETS (length (up_text here.key here.own d items))) all v h is

  gives-judged : (v : Verdict) → AllByRecursion After here.waits → verdict_of (judged_by here.third_party) d.peer d.octets ≡ v → Gives (judged here d v)
  gives-judged Silent all v is = all
  gives-judged (Refuse r) all v is = all
  gives-judged (Asked place ask items) all v is = gives-asked place ask items (up_key here.key d items) all v refl is

  client-stands : AllByRecursion (Stands start events) (run start events).waits → AllByRecursion After (on_client (run start events) d now).relay.waits
  client-stands all =
      gives-judged (verdict_of (judged_by here.third_party) d.peer d.octets)
      (all-map (Stands start events) After (λ e s. stands-more start events (Client d now ∷ []) e s) (run start events).waits all) refl refl

matched-all : (P : Entry → Type 0) (relay : Relay) (d : Datagram) (r : Response) (k : Option WaitingKey) → AllByRecursion P relay.waits → AllByRecursion P (matched relay d r k).relay.waits
matched-all P relay d r None all = all
matched-all P relay d r (Some k) all = all-removed P (is_key k) relay.waits all

pub answered-all : (P : Entry → Type 0) (relay : Relay) (d : Datagram) (r : Option Response) → AllByRecursion P relay.waits → AllByRecursion P (answered relay d r).relay.waits
answered-all P relay d None all = all
answered-all P relay d (Some r) all = matched-all P (hearing relay r.epoch) d r (key_of r.body (third_of r.items)) all

next-stands : (start : Relay) (events : List Event) (e : Event) → AllByRecursion (Stands start events) (run start events).waits → AllByRecursion (Stands start (events ++ e ∷ [])) (next (run start events) e).waits
next-stands start events (Client d now) all = client-stands start events d now all
next-stands start events (Server d now) all =
    answered-all (Stands start (events ++ Server d now ∷ [])) (at (run start events) now) d (response_from (run start events).server d)
    (all-map (Stands start events) (Stands start (events ++ Server d now ∷ [])) (λ e s. stands-more start events (Server d now ∷ []) e s) (run start events).waits all)
next-stands start events (Tick now) all =
    all-still (Stands start (events ++ Tick now ∷ [])) (max (run start events).last now) (run start events).waits
    (all-map (Stands start events) (Stands start (events ++ Tick now ∷ [])) (λ e s. stands-more start events (Tick now ∷ []) e s) (run start events).waits all)

-- after any events
from-there : (start : Relay) (events rest : List Event) → AllByRecursion (Stands start events) (run start events).waits → AllByRecursion (Stands start (events ++ rest)) (run start (events ++ rest)).waits
from-there start events [] all = subst (λ es. AllByRecursion (Stands start es) (run start es).waits) (sym (append-nil events)) all
from-there start events (e ∷ rest) all =
    let more = next-stands start events e all in
    let one : AllByRecursion (Stands start (events ++ e ∷ [])) (run start (events ++ e ∷ [])).waits =
    subst (λ (r : Relay). AllByRecursion (Stands start (events ++ e ∷ [])) r.waits) (sym (run-more start events e)) more in
    let all-rest = from-there start (events ++ e ∷ []) rest one in
    let group : (events ++ e ∷ []) ++ rest ≡ events ++ e ∷ rest = append_assoc events (e ∷ []) rest in
    subst (λ es. AllByRecursion (Stands start es) (run start es).waits) group all-rest

pub all-stand : (own server : Address) (key : List ℕ) (third_party : List Prefix) (events : List Event)
    → AllByRecursion (Stands (new_relay own server key third_party) events) (run (new_relay own server key third_party) events).waits
all-stand own server key third_party events = from-there (new_relay own server key third_party) [] events tt

-- ---- what is sent down

module _ (own server : Address) (key : List ℕ) (third_party : List Prefix) (events : List Event) (d sent : Datagram) where
  abbrev begin : Relay
  begin = new_relay own server key third_party

  pair-at : (r : Response) (k : WaitingKey) (o : Option Waiting) → response_from server d ≡ Some r → key_of r.body (third_of r.items) ≡ Some k →
      waiting_at k (run begin events).waits ≡ o → option_map (reply_to r) o ≡ Some sent → StandsForPair begin events d sent
  pair-at r k None read is h out = absurd cc
  pair-at r k (Some w) read is h out =
      let at_key = found (Stands begin events) (is_key k) (run begin events).waits w (all-stand own server key third_party events) h in
      let same : k ≡ at_key.0 = equal-key k at_key.0 at_key.2 in
      let s = at_key.1 in
      let told : reply_to r w ≡ sent = cc in
      record {
        response = r;
        read = read;
        request = s.request;
        items = s.items;
        asked = s.asked_up;
        key = is ∙ ap (λ x. Some x) same ∙ sym s.key;
        told = sym told ∙ ap (reply_to r) s.waits;
      }

  out-matched : (relay : Relay) (r : Response) (k : Option WaitingKey) → relay.waits ≡ (run begin events).waits → response_from server d ≡ Some r → key_of r.body (third_of r.items) ≡ k →
      (matched relay d r k).out ≡ Some sent → StandsForPair begin events d sent ⊎ IsAnnouncement server d sent
  out-matched relay r None w read is out =
      let told : announced d ≡ sent = cc in
      inr (record { response = r; read = read; no_key = is; told = sym told })
  out-matched relay r (Some k) w read is out =
      inl (pair-at r k (waiting_at k (run begin events).waits) read is refl (ap (λ es. option_map (reply_to r) (waiting_at k es)) (sym w) ∙ out))

  out-answered : (relay : Relay) (r : Option Response) → relay.waits ≡ (run begin events).waits → response_from server d ≡ r → (answered relay d r).out ≡ Some sent → StandsForPair begin events d sent ⊎ IsAnnouncement server d sent
  out-answered relay None w read out = absurd cc
  out-answered relay (Some r) w read out = out-matched (hearing relay r.epoch) r (key_of r.body (third_of r.items)) w read refl out

pub replies-stand : RepliesStandForPairs
replies-stand own server key third_party events d now sent out =
    let begin = new_relay own server key third_party in
    let same = same-run begin events in
    out-answered own server key third_party events d sent (at (run begin events) now) (response_from (run begin events).server d)
    refl (ap (λ s. response_from s d) (sym same.server)) out
