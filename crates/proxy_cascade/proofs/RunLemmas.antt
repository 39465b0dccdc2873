-- What a cascade keeps, whatever comes to it, and what it sends.
use Rattle.std.proofs.Common.{◌≡◌, ℕ, ◌+◌, ◌-◌, ◌/◌, ◌^◌, ◌==◌, max, min, Bool, true, false, not, cond, List, [], ◌∷◌, ◌++◌, Option, Some, None, refl, sym, ap, ◌∙◌, subst, append_assoc, append-nil, arith}
use Rattle.std.specs.Prelude.{⊤}
use Rattle.std.specs.List.{AllByRecursion}
use Rattle.std.proofs.lemmas.Bool.{and_parts, eqb-true}
use Rattle.std.proofs.lemmas.Bool.Decides.{nat_tests}
use Rattle.pcp_base.specs.declared.addresses.Address.{Address}
use Rattle.pcp_base.specs.declared.addresses.Nonce.{Nonce}
use Rattle.pcp_base.specs.declared.asks.Answer.TheVariants.{Announced, Refused}
use Rattle.pcp_base.specs.declared.asks.Ask.TheVariants as Asks
use Rattle.pcp_base.specs.declared.asks.MapAsk.{MapAsk}
use Rattle.pcp_base.specs.declared.datagrams.Datagram.{Datagram}
use Rattle.pcp_base.specs.declared.leases.Endpoint.{Endpoint}
use Rattle.pcp_base.specs.declared.leases.Protocol.{Protocol}
use Rattle.pcp_base.specs.Pairing.{v4_octets}
use Rattle.pcp_base.specs.Protocols.{protocol_of}
use Rattle.pcp_base.proofs.Members.{All-IsIn, All-filter, All-push, All-weaker, find-some}
use Rattle.pcp_base.proofs.Puts.{put_All}
use Rattle.pcp_base.proofs.Same.{same_protocol-Decides}
use Rattle.pcp_codec.specs.declared.requests.Body.TheVariants.{Announce, Map}
use Rattle.pcp_codec.specs.declared.requests.Common.{Common}
use Rattle.pcp_options.specs.declared.options.Item.{Item}
use Rattle.pcp_options.specs.declared.responses.Response.{Response}
use Rattle.pcp_options.specs.declared.verdicts.Verdict.TheVariants.{Asked}
use Rattle.pcp_options.specs.Replies.{reply_text, success_text}
use Rattle.pcp_options.specs.Verdicts.{verdict_of}
use Rattle.proxy_core.specs.declared.epochs.Heard.{Heard}
use Rattle.proxy_core.specs.declared.outs.ProxyOut.{ProxyOut}
use Rattle.proxy_core.specs.declared.outs.ProxyOut.TheVariants as ProxyOuts
use Rattle.proxy_core.specs.declared.outs.ProxyOut.TheVariants.{Reply}
use Rattle.proxy_core.specs.Down.{is_success, relayed_text}
use Rattle.proxy_core.specs.Nonces.{upstream_nonce}
use Rattle.proxy_core.specs.Relays.{response_from}
use Rattle.proxy_core.specs.Runs.{Event}
use Rattle.proxy_core.specs.Runs.Event.{Client, Server, Tick}
use Rattle.cascade_ties.specs.declared.ties.Tie.{Tie}
use Rattle.cascade_ties.specs.declared.ties.Tied.{Tied}
use Rattle.cascade_ties.specs.declared.ties.Waiting.{Waiting}
use Rattle.cascade_ties.specs.Ties.{Ties, TiesDiffer, has_client, has_local, is_over, tie_at, tie_of, with_change, without}
use Rattle.cascade_ties.proofs.TieKeeping.{IsSameTie}
use Rattle.proxy_cascade.specs.Cascades.{Cascade, Step, at, for_itself, told_epoch}
use Rattle.proxy_cascade.specs.FromClients.{asked_again, lease_text, new_tie, on_client, renewed, repeated, tied, tied_with, up_text, waiting_of}
use Rattle.proxy_cascade.specs.FromServers.{again_text, announcement, ended, for_next, granted, hearing, is_asked_by, is_taken, keeps_epoch, moved, on_server, resting, settled, text_after, ties_after, told_lifetime}
use Rattle.proxy_cascade.specs.declared.outs.CascadeOut.{CascadeOut}
use Rattle.proxy_cascade.specs.declared.outs.CascadeOut.TheVariants.{Nothing, Down, Up}
use Rattle.proxy_cascade.specs.Laws.{AnswersTie, asked_up, Beginning, IsOwnReply, IsOwnText, IsSent, RepliesAreOwn, SentIsTold, TiesAlwaysDiffer, WentUp, begun, to_asker, tried_up, up_by}
use Rattle.proxy_cascade.specs.Laws.IsOwnText.{refused as own_refused, announced as own_announced, gone as own_gone}
use Rattle.proxy_cascade.specs.Laws.IsSent.{lease as sent_lease, deletion as sent_deletion, error as sent_error, announcement as sent_announcement}
use Rattle.proxy_cascade.specs.Runs.{epoch_after, epoch_by, epoch_in, epochs_heard, last_loss, moment_after, moment_of, next, run}
use Rattle.proxy_cascade.proofs.Deeds.{ClientDeed, ServerDeed, client-deed, server-deed}
use Rattle.proxy_cascade.proofs.Deeds.ClientDeed.{silent, refused, announced, deleted, again, new}
use Rattle.proxy_cascade.proofs.Deeds.ServerDeed.{unread, unasked, told, matched, tried}
use Rattle.proxy_cascade.proofs.TieFacts.{client-is, differ-moved, differ-push, differ-put, differ-still, found-client, found-itself, same-nonce, vacant-local}
use Rattle.proxy_cascade.proofs.VerdictLemmas.{asks-for-itself}

run-more : (c : Cascade) (es : List Event) (e : Event) → run c (es ++ e ∷ []) ≡ next (run c es) e
run-more c [] e = refl
run-more c (x ∷ es) e = run-more (next c x) es e

-- ---- what becomes of all but the ties

pub record Same (a b : Cascade) : Type 0 where
  pub own : a.own ≡ b.own
  pub server : a.server ≡ b.server
  pub key : a.key ≡ b.key
  pub base : a.base ≡ b.base
  pub heard : a.heard ≡ b.heard
  pub last : a.last ≡ b.last

same_ties : (c : Cascade) (ties : Ties) → Same (record c { ties = ties }) c
same_ties c ties = record { own = refl; server = refl; key = refl; base = refl; heard = refl; last = refl }

client-same : (c : Cascade) (d : Datagram) (step : Step ProxyOut) → ClientDeed c d step → Same step.cascade c
client-same c d step (silent is) = subst (λ (s : Step ProxyOut). Same s.cascade c) (sym is) (same_ties c c.ties)
client-same c d step (refused refusal is) = subst (λ (s : Step ProxyOut). Same s.cascade c) (sym is) (same_ties c c.ties)
client-same c d step (announced is) = subst (λ (s : Step ProxyOut). Same s.cascade c) (sym is) (same_ties c c.ties)
client-same c d step (deleted ask items is) = subst (λ (s : Step ProxyOut). Same s.cascade c) (sym is) (same_ties c c.ties)
client-same c d step (again place ask items t v found nonce is) = subst (λ (s : Step ProxyOut). Same s.cascade c) (sym is) (same_ties c (renewed c d items ask t.tie).cascade.ties)
client-same c d step (new place ask items local v none given is) = subst (λ (s : Step ProxyOut). Same s.cascade c) (sym is) (same_ties c (tied c d items ask local).cascade.ties)

-- what an upstream datagram tells of epochs
abbrev hearing_in : Cascade → Option Response → Cascade
hearing_in c None = c
hearing_in c (Some r) = hearing c r.epoch

server-same : (c : Cascade) (d : Datagram) (step : Step CascadeOut) → ServerDeed c d step → Same step.cascade (hearing_in c (response_from c.server d))
server-same c d step (unread read is) =
    subst (λ (o : Option Response). Same step.cascade (hearing_in c o)) (sym read) (subst (λ (s : Step CascadeOut). Same s.cascade c) (sym is) (same_ties c c.ties))
server-same c d step (unasked r read is) =
    subst (λ (o : Option Response). Same step.cascade (hearing_in c o)) (sym read) (subst (λ (s : Step CascadeOut). Same s.cascade (hearing c r.epoch)) (sym is) (same_ties (hearing c r.epoch) c.ties))
server-same c d step (told r read lost is) =
    subst (λ (o : Option Response). Same step.cascade (hearing_in c o)) (sym read) (subst (λ (s : Step CascadeOut). Same s.cascade (hearing c r.epoch)) (sym is) (same_ties (hearing c r.epoch) c.ties))
server-same c d step (matched r common protocol t w read body of found waits nonce is) =
    subst (λ (o : Option Response). Same step.cascade (hearing_in c o)) (sym read)
    (subst (λ (s : Step CascadeOut). Same s.cascade (hearing c r.epoch)) (sym is) (same_ties (hearing c r.epoch) (settled (hearing c r.epoch) r common t.tie w).cascade.ties))
server-same c d step (tried r common protocol t w local read found waits next is) =
    subst (λ (o : Option Response). Same step.cascade (hearing_in c o)) (sym read)
    (subst (λ (s : Step CascadeOut). Same s.cascade (hearing c r.epoch)) (sym is) (same_ties (hearing c r.epoch) (for_next (hearing c r.epoch) r common t.tie w (Some local)).cascade.ties))

-- ---- epochs

module _ (c : Cascade) where
  -- after one event
  base-next : (e : Event) (hs : List Heard) → last_loss c.base c.heard (epoch_by c.server e (max c.last (moment_of e)) ++ hs) ≡ last_loss (next c e).base (next c e).heard hs
  base-next (Client d now) hs = let same = client-same (at c now) d (on_client c d now) (client-deed c d now) in
      ap (λ (n : ℕ). last_loss n c.heard hs) (sym same.base) ∙ ap (λ (h : Option Heard). last_loss (on_client c d now).cascade.base h hs) (sym same.heard)
  base-next (Server d now) hs =
      let same = server-same (at c now) d (on_server c d now) (server-deed c d now) in
      by (response_from c.server d) ∙ ap (λ (n : ℕ). last_loss n (hearing_in (at c now) (response_from c.server d)).heard hs) (sym same.base)
      ∙ ap (λ (h : Option Heard). last_loss (on_server c d now).cascade.base h hs) (sym same.heard)
    where
      by : (o : Option Response) → last_loss c.base c.heard (epoch_in o (max c.last now) ++ hs) ≡ last_loss (hearing_in (at c now) o).base (hearing_in (at c now) o).heard hs
      by None = refl
      by (Some r) = refl
  base-next (Tick now) hs = refl

  last-next : (e : Event) → (next c e).last ≡ max c.last (moment_of e)
  last-next (Client d now) = (client-same (at c now) d (on_client c d now) (client-deed c d now)).last
  last-next (Server d now) = (server-same (at c now) d (on_server c d now) (server-deed c d now)).last ∙ by (response_from c.server d)
    where
      by : (o : Option Response) → (hearing_in (at c now) o).last ≡ max c.last now
      by None = refl
      by (Some r) = refl
  last-next (Tick now) = refl

  server-next : (e : Event) → (next c e).server ≡ c.server
  server-next (Client d now) = (client-same (at c now) d (on_client c d now) (client-deed c d now)).server
  server-next (Server d now) = (server-same (at c now) d (on_server c d now) (server-deed c d now)).server ∙ by (response_from c.server d)
    where
      by : (o : Option Response) → (hearing_in (at c now) o).server ≡ c.server
      by None = refl
      by (Some r) = refl
  server-next (Tick now) = refl

  key-next : (e : Event) → ((next c e).key ≡ c.key) × ((next c e).own ≡ c.own)
  key-next (Client d now) = let same = client-same (at c now) d (on_client c d now) (client-deed c d now) in (same.key, same.own)
  key-next (Server d now) = let same = server-same (at c now) d (on_server c d now) (server-deed c d now) in let rest = by (response_from c.server d) in (same.key ∙ rest.0, same.own ∙ rest.1)
    where
      by : (o : Option Response) → ((hearing_in (at c now) o).key ≡ c.key) × ((hearing_in (at c now) o).own ≡ c.own)
      by None = (refl, refl)
      by (Some r) = (refl, refl)
  key-next (Tick now) = (refl, refl)

base-run : (c : Cascade) (es : List Event) → (run c es).base ≡ last_loss c.base c.heard (epochs_heard c.server c.last es)
base-run c [] = refl
base-run c (e ∷ es) =
    base-run (next c e) es
    ∙ ap (λ (s : Address). last_loss (next c e).base (next c e).heard (epochs_heard s (next c e).last es)) (server-next c e)
    ∙ ap (λ (n : ℕ). last_loss (next c e).base (next c e).heard (epochs_heard c.server n es)) (last-next c e)
    ∙ sym (base-next c e (epochs_heard c.server (max c.last (moment_of e)) es))

last-run : (c : Cascade) (es : List Event) → (run c es).last ≡ moment_after c.last es
last-run c [] = refl
last-run c (e ∷ es) = last-run (next c e) es ∙ ap (λ (n : ℕ). moment_after n es) (last-next c e)

server-run : (c : Cascade) (es : List Event) → (run c es).server ≡ c.server
server-run c [] = refl
server-run c (e ∷ es) = server-run (next c e) es ∙ server-next c e

keys-run : (c : Cascade) (es : List Event) → ((run c es).key ≡ c.key) × ((run c es).own ≡ c.own)
keys-run c [] = (refl, refl)
keys-run c (e ∷ es) = let rest = keys-run (next c e) es in let one = key-next c e in (rest.0 ∙ one.0, rest.1 ∙ one.1)

epoch-run : (b : Beginning) (es : List Event) → told_epoch (run (begun b) es) ≡ epoch_after b.server b.start es
epoch-run b es =
    ap (λ (n : ℕ). min ((n - (run (begun b) es).base) / 1000) (2 ^ 32 - 1)) (last-run (begun b) es)
    ∙ ap (λ (n : ℕ). min ((moment_after b.start es - n) / 1000) (2 ^ 32 - 1)) (base-run (begun b) es)

-- the epoch after one more event
pub epoch-more : (b : Beginning) (es : List Event) (e : Event) → told_epoch (next (run (begun b) es) e) ≡ epoch_after b.server b.start (es ++ e ∷ [])
epoch-more b es e = ap told_epoch (sym (run-more (begun b) es e)) ∙ epoch-run b (es ++ e ∷ [])

-- ---- ties differ

differ-after : (c : Cascade) (r : Response) (common : Common) (t : Tied) → tie_of t.tie.client c.ties.each ≡ Some t → TiesDiffer c.ties.each → TiesDiffer (ties_after c.last r common t.tie c.ties).each
differ-after c r common t found h = step (is_success r.code) (r.lifetime == 0) t.tie.granted (is_taken r.code)
  where
    changed : (x : Tied) → IsSameTie t x → TiesDiffer (with_change c.ties x).each
    changed x same = differ-put c.ties.each t x same (ap (λ (e : Endpoint). tie_of e c.ties.each) (sym same.client) ∙ found) h

    step : (b z g k : Bool) → TiesDiffer (cond b (cond z (without (resting c.last r t.tie c.ties) t.tie.client) (resting c.last r t.tie (with_change c.ties (ended (granted t.tie common (told_lifetime r.lifetime) c.last)))))
        (cond g (with_change c.ties (ended t.tie)) (without (cond k (resting c.last r t.tie c.ties) c.ties) t.tie.client))).each
    step true true g k = differ-still (λ x. not (has_client t.tie.client x)) c.ties.each h
    step true false g k = changed (ended (granted t.tie common (told_lifetime r.lifetime) c.last)) (record { client = refl; local = refl })
    step false z true k = changed (ended t.tie) (record { client = refl; local = refl })
    step false z false true = differ-still (λ x. not (has_client t.tie.client x)) c.ties.each h
    step false z false false = differ-still (λ x. not (has_client t.tie.client x)) c.ties.each h

differ-client : (c : Cascade) (d : Datagram) (step : Step ProxyOut) → ClientDeed c d step → TiesDiffer c.ties.each → TiesDiffer step.cascade.ties.each
differ-client c d step (silent is) h = subst (λ (s : Step ProxyOut). TiesDiffer s.cascade.ties.each) (sym is) h
differ-client c d step (refused refusal is) h = subst (λ (s : Step ProxyOut). TiesDiffer s.cascade.ties.each) (sym is) h
differ-client c d step (announced is) h = subst (λ (s : Step ProxyOut). TiesDiffer s.cascade.ties.each) (sym is) h
differ-client c d step (deleted ask items is) h = subst (λ (s : Step ProxyOut). TiesDiffer s.cascade.ties.each) (sym is) h
differ-client c d step (again place ask items t v found nonce is) h =
    subst (λ (s : Step ProxyOut). TiesDiffer s.cascade.ties.each) (sym is)
    (differ-put c.ties.each t (tied_with (asked_again t.tie c.last) (waiting_of d items ask c.last)) (record { client = refl; local = refl }) (found-itself ask.endpoint c.ties.each t found) h)
differ-client c d step (new place ask items local v none given is) h =
    subst (λ (s : Step ProxyOut). TiesDiffer s.cascade.ties.each) (sym is)
    (differ-push c.ties (tied_with (new_tie ask local c.last) (waiting_of d items ask c.last)) none (vacant-local c.ties ask.endpoint local given) h)

differ-server : (c : Cascade) (d : Datagram) (step : Step CascadeOut) → ServerDeed c d step → TiesDiffer c.ties.each → TiesDiffer step.cascade.ties.each
differ-server c d step (unread read is) h = subst (λ (s : Step CascadeOut). TiesDiffer s.cascade.ties.each) (sym is) h
differ-server c d step (unasked r read is) h = subst (λ (s : Step CascadeOut). TiesDiffer s.cascade.ties.each) (sym is) h
differ-server c d step (told r read lost is) h = subst (λ (s : Step CascadeOut). TiesDiffer s.cascade.ties.each) (sym is) h
differ-server c d step (matched r common protocol t w read body of found waits nonce is) h =
    subst (λ (s : Step CascadeOut). TiesDiffer s.cascade.ties.each) (sym is)
    (differ-after (hearing c r.epoch) r common t (found-client protocol common.internal c.ties.each t h found) h)
differ-server c d step (tried r common protocol t w local read found waits next is) h =
    subst (λ (s : Step CascadeOut). TiesDiffer s.cascade.ties.each) (sym is)
    (differ-moved c.ties t r w local (found-client protocol common.internal c.ties.each t h found) next h)

differ-at : (c : Cascade) (now : ℕ) → TiesDiffer c.ties.each → TiesDiffer (at c now).ties.each
differ-at c now h = differ-still (λ t. not (is_over (max c.last now) t)) c.ties.each h

differ-next : (c : Cascade) (e : Event) → TiesDiffer c.ties.each → TiesDiffer (next c e).ties.each
differ-next c (Client d now) h = differ-client (at c now) d (on_client c d now) (client-deed c d now) (differ-at c now h)
differ-next c (Server d now) h = differ-server (at c now) d (on_server c d now) (server-deed c d now) (differ-at c now h)
differ-next c (Tick now) h = differ-at c now h

differ-run : (c : Cascade) (es : List Event) → TiesDiffer c.ties.each → TiesDiffer (run c es).ties.each
differ-run c [] h = h
differ-run c (e ∷ es) h = differ-run (next c e) es (differ-next c e h)

pub ties-differ : TiesAlwaysDiffer
ties-differ b events = differ-run (begun b) events tt

-- ---- what waits went up

record IsAsked (b : Beginning) (events : List Event) (tie : Tie) (w : Waiting) : Type 0 where
  pub request : Datagram
  pub ask : MapAsk
  pub items : List Item
  pub since : ℕ
  pub asked : WentUp b events request ask items tie.local
  pub client : tie.client ≡ ask.endpoint
  pub nonce : tie.nonce ≡ ask.nonce
  pub tries : ℕ
  pub waits : w ≡ record (waiting_of request items ask since) { tries = tries }

abbrev StandsBy : Beginning → List Event → Tie → Option Waiting → Type 0
StandsBy b events tie None = ⊤
StandsBy b events tie (Some w) = IsAsked b events tie w

abbrev Stands : Beginning → List Event → Tied → Type 0
Stands b events t = StandsBy b events t.tie t.waiting

went-more : (b : Beginning) (events more : List Event) (request : Datagram) (ask : MapAsk) (items : List Item) (local : ℕ) → WentUp b events request ask items local → WentUp b (events ++ more) request ask items local
went-more b events more request ask items local w = record {
  before = w.before;
  now = w.now;
  behind = w.behind ++ more;
  came = ap (λ es. es ++ more) w.came ∙ append_assoc w.before (Client request w.now ∷ w.behind) more;
  place = w.place;
  judged = w.judged;
  between = w.between;
  event = w.event;
  rest = w.rest ++ more;
  stands = ap (λ es. es ++ more) w.stands ∙ append_assoc w.between (w.event ∷ w.rest) more;
  went = w.went;
}

stands-by : (b : Beginning) (events more : List Event) (tie : Tie) (o : Option Waiting) → StandsBy b events tie o → StandsBy b (events ++ more) tie o
stands-by b events more tie None s = tt
stands-by b events more tie (Some w) s = record {
  request = s.request;
  ask = s.ask;
  items = s.items;
  since = s.since;
  asked = went-more b events more s.request s.ask s.items tie.local s.asked;
  client = s.client;
  nonce = s.nonce;
  tries = s.tries;
  waits = s.waits;
}

stands-more : (b : Beginning) (events : List Event) (e : Event) (ts : List Tied) → AllByRecursion (Stands b events) ts → AllByRecursion (Stands b (events ++ e ∷ [])) ts
stands-more b events e ts all = All-weaker (Stands b events) (Stands b (events ++ e ∷ [])) (λ t s. stands-by b events (e ∷ []) t.tie t.waiting s) ts all

module _ (b : Beginning) (events : List Event) where
  abbrev sofar : Cascade
  sofar = run (begun b) events

  module _ (d : Datagram) (now : ℕ) where
    abbrev later : List Event
    later = events ++ Client d now ∷ []

    abbrev there : Cascade
    there = at sofar now

    -- this request went up now
    went-now : (place : ℕ) (ask : MapAsk) (items : List Item) (local : ℕ) → verdict_of for_itself d.peer d.octets ≡ Asked place (Asks.Map ask) items
        → (on_client sofar d now).out ≡ ProxyOuts.Up (up_text there.key there.own ask items local) → WentUp b later d ask items local
    went-now place ask items local v out = let keys = keys-run (begun b) events in record {
      before = events;
      now = now;
      behind = [];
      came = refl;
      place = place;
      judged = v;
      between = [];
      event = Client d now;
      rest = [];
      stands = refl;
      went = ap (λ es. up_by (run (begun b) es) (Client d now)) (append-nil events) ∙ ap asked_up out
          ∙ ap (λ (k : List ℕ). Some (up_text k there.own ask items local)) keys.0 ∙ ap (λ (a : Address). Some (up_text b.key a ask items local)) keys.1;
    }

    stands-client : (step : Step ProxyOut) → on_client sofar d now ≡ step → ClientDeed there d step → AllByRecursion (Stands b later) there.ties.each → AllByRecursion (Stands b later) step.cascade.ties.each
    stands-client step same (silent is) all = subst (λ (s : Step ProxyOut). AllByRecursion (Stands b later) s.cascade.ties.each) (sym is) all
    stands-client step same (refused refusal is) all = subst (λ (s : Step ProxyOut). AllByRecursion (Stands b later) s.cascade.ties.each) (sym is) all
    stands-client step same (announced is) all = subst (λ (s : Step ProxyOut). AllByRecursion (Stands b later) s.cascade.ties.each) (sym is) all
    stands-client step same (deleted ask items is) all = subst (λ (s : Step ProxyOut). AllByRecursion (Stands b later) s.cascade.ties.each) (sym is) all
    stands-client step same (again place ask items t v found nonce is) all =
        subst (λ (s : Step ProxyOut). AllByRecursion (Stands b later) s.cascade.ties.each) (sym is)
        (put_All (Stands b later) (has_client t.tie.client) (tied_with (asked_again t.tie there.last) (waiting_of d items ask there.last)) there.ties.each (record {
          request = d;
          ask = ask;
          items = items;
          since = there.last;
          asked = went-now place ask items t.tie.local v (ap (λ (s : Step ProxyOut). s.out) (same ∙ is));
          client = client-is ask.endpoint there.ties.each t found;
          nonce = same-nonce t.tie.nonce ask.nonce nonce;
          tries = 0;
          waits = refl;
        }) all)
    stands-client step same (new place ask items local v none given is) all =
        subst (λ (s : Step ProxyOut). AllByRecursion (Stands b later) s.cascade.ties.each) (sym is)
        (All-push (Stands b later) there.ties.each (tied_with (new_tie ask local there.last) (waiting_of d items ask there.last)) all (record {
          request = d;
          ask = ask;
          items = items;
          since = there.last;
          asked = went-now place ask items local v (ap (λ (s : Step ProxyOut). s.out) (same ∙ is));
          client = refl;
          nonce = refl;
          tries = 0;
          waits = refl;
        }))

all-after : (P : Tied → Type 0) → ((tie : Tie) → P (ended tie)) → (now : ℕ) (r : Response) (common : Common) (t : Tied) (ts : Ties) → AllByRecursion P ts.each → AllByRecursion P (ties_after now r common t.tie ts).each
all-after P e now r common t ts all = step (is_success r.code) (r.lifetime == 0) t.tie.granted (is_taken r.code)
  where
    step : (b z g k : Bool) → AllByRecursion P (cond b (cond z (without (resting now r t.tie ts) t.tie.client) (resting now r t.tie (with_change ts (ended (granted t.tie common (told_lifetime r.lifetime) now)))))
        (cond g (with_change ts (ended t.tie)) (without (cond k (resting now r t.tie ts) ts) t.tie.client))).each
    step true true g k = All-filter P (λ x. not (has_client t.tie.client x)) ts.each all
    step true false g k = put_All P (has_client t.tie.client) (ended (granted t.tie common (told_lifetime r.lifetime) now)) ts.each (e (granted t.tie common (told_lifetime r.lifetime) now)) all
    step false z true k = put_All P (has_client t.tie.client) (ended t.tie) ts.each (e t.tie) all
    step false z false true = All-filter P (λ x. not (has_client t.tie.client x)) ts.each all
    step false z false false = All-filter P (λ x. not (has_client t.tie.client x)) ts.each all

module _ (b : Beginning) (events : List Event) (d : Datagram) (now : ℕ) where
  abbrev heard : List Event
  heard = events ++ Server d now ∷ []

  abbrev hearer : Cascade
  hearer = at (run (begun b) events) now

  -- a request that waited went up once more
  went-again : (tie : Tie) (w : Waiting) (local : ℕ) → (on_server (run (begun b) events) d now).out ≡ Up (again_text hearer.key hearer.own tie w local) → IsAsked b events tie w
      → IsAsked b heard (record tie { local = local }) (record w { tries = w.tries + 1 })
  went-again tie w local out s = let keys = keys-run (begun b) events in record {
    request = s.request;
    ask = s.ask;
    items = s.items;
    since = s.since;
    asked = record {
      before = s.asked.before;
      now = s.asked.now;
      behind = s.asked.behind ++ Server d now ∷ [];
      came = ap (λ es. es ++ Server d now ∷ []) s.asked.came ∙ append_assoc s.asked.before (Client s.request s.asked.now ∷ s.asked.behind) (Server d now ∷ []);
      place = s.asked.place;
      judged = s.asked.judged;
      between = Client s.request s.asked.now ∷ s.asked.behind;
      event = Server d now;
      rest = [];
      stands = refl;
      went = ap (λ es. up_by (run (begun b) es) (Server d now)) (sym s.asked.came) ∙ ap tried_up out
          ∙ ap (λ (k : List ℕ). Some (again_text k hearer.own tie w local)) keys.0 ∙ ap (λ (a : Address). Some (again_text b.key a tie w local)) keys.1
          ∙ ap (λ (v : Waiting). Some (again_text b.key b.own tie v local)) s.waits
          ∙ ap (λ (e : Endpoint). Some (again_text b.key b.own (record tie { client = e }) (waiting_of s.request s.items s.ask s.since) local)) s.client
          ∙ ap (λ (n : Nonce). Some (again_text b.key b.own (record tie { client = s.ask.endpoint; nonce = n }) (waiting_of s.request s.items s.ask s.since) local)) s.nonce;
    };
    client = s.client;
    nonce = s.nonce;
    tries = w.tries + 1;
    waits = ap (λ (v : Waiting). record v { tries = w.tries + 1 }) s.waits;
  }

  stands-server : (step : Step CascadeOut) → on_server (run (begun b) events) d now ≡ step → ServerDeed hearer d step → AllByRecursion (Stands b events) hearer.ties.each → AllByRecursion (Stands b heard) step.cascade.ties.each
  stands-server step same (unread read is) all = subst (λ (s : Step CascadeOut). AllByRecursion (Stands b heard) s.cascade.ties.each) (sym is) (stands-more b events (Server d now) hearer.ties.each all)
  stands-server step same (unasked r read is) all = subst (λ (s : Step CascadeOut). AllByRecursion (Stands b heard) s.cascade.ties.each) (sym is) (stands-more b events (Server d now) hearer.ties.each all)
  stands-server step same (told r read lost is) all = subst (λ (s : Step CascadeOut). AllByRecursion (Stands b heard) s.cascade.ties.each) (sym is) (stands-more b events (Server d now) hearer.ties.each all)
  stands-server step same (matched r common protocol t w read body of found waits nonce is) all =
      subst (λ (s : Step CascadeOut). AllByRecursion (Stands b heard) s.cascade.ties.each) (sym is)
      (all-after (Stands b heard) (λ tie. tt) hearer.last r common t hearer.ties (stands-more b events (Server d now) hearer.ties.each all))
  stands-server step same (tried r common protocol t w local read found waits next is) all =
      let stood : StandsBy b events t.tie t.waiting = All-IsIn (Stands b events) hearer.ties.each t all (find-some (has_local protocol common.internal) hearer.ties.each t found).0 in
      let asked_it : IsAsked b events t.tie w = subst (StandsBy b events t.tie) waits stood in
      subst (λ (s : Step CascadeOut). AllByRecursion (Stands b heard) s.cascade.ties.each) (sym is)
      (put_All (Stands b heard) (has_client t.tie.client) (moved t.tie w local) hearer.ties.each
      (went-again t.tie w local (ap (λ (s : Step CascadeOut). s.out) (same ∙ is)) asked_it) (stands-more b events (Server d now) hearer.ties.each all))

stands-next : (b : Beginning) (events : List Event) (e : Event) → AllByRecursion (Stands b events) (run (begun b) events).ties.each → AllByRecursion (Stands b (events ++ e ∷ [])) (next (run (begun b) events) e).ties.each
stands-next b events (Client d now) all =
    stands-client b events d now (on_client (run (begun b) events) d now) refl (client-deed (run (begun b) events) d now)
    (All-filter (Stands b (events ++ Client d now ∷ [])) (λ t. not (is_over (max (run (begun b) events).last now) t)) (run (begun b) events).ties.each (stands-more b events (Client d now) (run (begun b) events).ties.each all))
stands-next b events (Server d now) all =
    stands-server b events d now (on_server (run (begun b) events) d now) refl (server-deed (run (begun b) events) d now)
    (All-filter (Stands b events) (λ t. not (is_over (max (run (begun b) events).last now) t)) (run (begun b) events).ties.each all)
stands-next b events (Tick now) all =
    All-filter (Stands b (events ++ Tick now ∷ [])) (λ t. not (is_over (max (run (begun b) events).last now) t)) (run (begun b) events).ties.each (stands-more b events (Tick now) (run (begun b) events).ties.each all)

from-there : (b : Beginning) (events rest : List Event) → AllByRecursion (Stands b events) (run (begun b) events).ties.each → AllByRecursion (Stands b (events ++ rest)) (run (begun b) (events ++ rest)).ties.each
from-there b events [] all = subst (λ es. AllByRecursion (Stands b es) (run (begun b) es).ties.each) (sym (append-nil events)) all
from-there b events (e ∷ rest) all =
    let one : AllByRecursion (Stands b (events ++ e ∷ [])) (run (begun b) (events ++ e ∷ [])).ties.each =
    subst (λ (c : Cascade). AllByRecursion (Stands b (events ++ e ∷ [])) c.ties.each) (sym (run-more (begun b) events e)) (stands-next b events e all) in
    let all_rest = from-there b (events ++ e ∷ []) rest one in
    let group : (events ++ e ∷ []) ++ rest ≡ events ++ e ∷ rest = append_assoc events (e ∷ []) rest in
    subst (λ es. AllByRecursion (Stands b es) (run (begun b) es).ties.each) group all_rest

all-stand : (b : Beginning) (events : List Event) → AllByRecursion (Stands b events) (run (begun b) events).ties.each
all-stand b events = from-there b [] events tt

-- ---- what is sent

-- a loss is heard: epochs begin anew
epoch-anew : (c : Cascade) (epoch : ℕ) → keeps_epoch c.heard epoch c.last ≡ false → told_epoch (hearing c epoch) ≡ 0
epoch-anew c epoch lost =
    ap (λ (v : Bool). min ((c.last - cond v c.base c.last) / 1000) (2 ^ 32 - 1)) lost
    ∙ ap (λ (n : ℕ). min (n / 1000) (2 ^ 32 - 1)) (let nothing : c.last - c.last ≡ 0 = omega arith in nothing)

module _ (b : Beginning) (events : List Event) (d : Datagram) (now : ℕ) (sent : Datagram) where
  abbrev before : Cascade
  before = run (begun b) events

  abbrev here : Cascade
  here = at before now

  abbrev epoch : ℕ
  epoch = epoch_after b.server b.start (events ++ Server d now ∷ [])

  differ-here : TiesDiffer here.ties.each
  differ-here = differ-at before now (ties-differ b events)

  -- the epoch that the reply has
  epoch-here : (s : Step CascadeOut) (r : Response) → on_server before d now ≡ s → s.cascade.base ≡ (hearing here r.epoch).base → s.cascade.last ≡ here.last → told_epoch (hearing here r.epoch) ≡ epoch
  epoch-here s r same base last =
      ap (λ (n : ℕ). min ((here.last - n) / 1000) (2 ^ 32 - 1)) (sym base) ∙ ap (λ (n : ℕ). min ((n - s.cascade.base) / 1000) (2 ^ 32 - 1)) (sym last)
      ∙ ap (λ (z : Step CascadeOut). told_epoch z.cascade) (sym same) ∙ epoch-more b events (Server d now)

  module _ (r : Response) (common : Common) (protocol : Protocol) (t : Tied) (w : Waiting) (read : response_from here.server d ≡ Some r) (body : r.body ≡ Map common)
      (of : protocol_of common.protocol ≡ Some protocol) (found : tie_at protocol common.internal here.ties.each ≡ Some t) (s : IsAsked b events t.tie w)
      (nonce : is_asked_by here.key t.tie common.nonce ≡ true) where
    by_client : tie_of s.ask.endpoint here.ties.each ≡ Some t
    by_client = ap (λ (e : Endpoint). tie_of e here.ties.each) (sym s.client) ∙ found-client protocol common.internal here.ties.each t differ-here found

    has : (same_protocol-there : t.tie.client.protocol ≡ protocol) × (t.tie.local ≡ common.internal)
    has = let p = and_parts _ _ (find-some (has_local protocol common.internal) here.ties.each t found).1 in
        ((same_protocol-Decides t.tie.client.protocol protocol).0 p.0, eqb-true t.tie.local common.internal p.1)

    nonce_is : common.nonce ≡ upstream_nonce b.key s.ask.endpoint.address s.ask.nonce
    nonce_is =
        sym (same-nonce (upstream_nonce here.key t.tie.client.address t.tie.nonce) common.nonce nonce)
        ∙ ap (λ (k : List ℕ). upstream_nonce k t.tie.client.address t.tie.nonce) (keys-run (begun b) events).0
        ∙ ap (λ (e : Endpoint). upstream_nonce b.key e.address t.tie.nonce) s.client
        ∙ ap (upstream_nonce b.key s.ask.endpoint.address) s.nonce

    abbrev triple : AnswersTie b events d now
    triple = record {
      response = r;
      read = ap (λ (a : Address). response_from a d) (sym (server-run (begun b) events)) ∙ read;
      common = common;
      is_map = body;
      request = s.request;
      ask = s.ask;
      items = s.items;
      tie = t;
      stands = by_client;
      asked = s.asked;
      itself = asks-for-itself s.request.peer s.request.octets s.asked.place s.ask s.items s.asked.judged;
      internal = sym has.1;
      protocol = of ∙ ap (λ (p : Protocol). Some p) (sym has.0 ∙ ap (λ (e : Endpoint). e.protocol) s.client);
      nonce = nonce_is;
    }

    asker : s.request.peer ≡ t.tie.client.address
    asker = sym (asks-for-itself s.request.peer s.request.octets s.asked.place s.ask s.items s.asked.judged) ∙ ap (λ (e : Endpoint). e.address) (sym s.client)

    -- a text for the client that waits
    to_it : (octets text : List ℕ) → octets ≡ text → record { peer = t.tie.client.address; port = w.port; door = w.door; octets = octets } ≡ to_asker s.request text
    to_it octets text same =
        ap (λ (a : Address). record { peer = a; port = w.port; door = w.door; octets = octets }) (sym asker)
        ∙ ap (λ (v : Waiting). record { peer = s.request.peer; port = v.port; door = v.door; octets = octets }) s.waits
        ∙ ap (λ (o : List ℕ). to_asker s.request o) same

    lease_is : (lifetime e external : ℕ) (address : Address) → e ≡ epoch → lease_text t.tie.client t.tie.nonce lifetime e external address w.items
        ≡ lease_text s.ask.endpoint s.ask.nonce lifetime epoch external address (repeated s.items)
    lease_is lifetime e external address same =
        ap (λ (c : Endpoint). lease_text c t.tie.nonce lifetime e external address w.items) s.client
        ∙ ap (λ (n : Nonce). lease_text s.ask.endpoint n lifetime e external address w.items) s.nonce
        ∙ ap (λ (n : ℕ). lease_text s.ask.endpoint s.ask.nonce lifetime n external address w.items) same
        ∙ ap (λ (v : Waiting). lease_text s.ask.endpoint s.ask.nonce lifetime epoch external address v.items) s.waits

    suggested_is : lease_text s.ask.endpoint s.ask.nonce 0 epoch w.suggested w.address (repeated s.items) ≡ lease_text s.ask.endpoint s.ask.nonce 0 epoch s.ask.port s.ask.address (repeated s.items)
    suggested_is = ap (λ (v : Waiting). lease_text s.ask.endpoint s.ask.nonce 0 epoch v.suggested v.address (repeated s.items)) s.waits

    sent-by : (e : ℕ) → e ≡ epoch → (success none : Bool) → is_success r.code ≡ success → (r.lifetime == 0) ≡ none →
        sent ≡ record {
          peer = t.tie.client.address;
          port = w.port;
          door = w.door;
          octets = cond success
              (cond none (lease_text t.tie.client t.tie.nonce 0 e w.suggested w.address w.items)
              (lease_text t.tie.client t.tie.nonce (told_lifetime r.lifetime) e common.external common.address w.items))
              (relayed_text w.request r.code r.lifetime e);
        } → IsSent b events d now epoch sent
    sent-by e same true true success none is = sent_deletion (record {
      triple = triple;
      success = success;
      over = eqb-true r.lifetime 0 none;
      told = is ∙ to_it _ _ (lease_is 0 e w.suggested w.address same ∙ suggested_is);
    })
    sent-by e same true false success some is = sent_lease (record {
      triple = triple;
      success = success;
      lasts = grind (arith, nat_tests, some);
      told = is ∙ to_it _ _ (lease_is (told_lifetime r.lifetime) e common.external common.address same);
    })
    sent-by e same false none fails z is = sent_error (record {
      triple = triple;
      fails = fails;
      told = is ∙ to_it _ _ (ap (λ (n : ℕ). relayed_text w.request r.code r.lifetime n) same ∙ ap (λ (v : Waiting). relayed_text v.request r.code r.lifetime epoch) s.waits);
    })

  stands-here : AllByRecursion (Stands b events) here.ties.each
  stands-here = All-filter (Stands b events) (λ t. not (is_over (max before.last now) t)) before.ties.each (all-stand b events)

  sent-step : (s : Step CascadeOut) → on_server before d now ≡ s → ServerDeed here d s → s.out ≡ Down sent → IsSent b events d now epoch sent
  sent-step s same (unread read is) out = absurd (let no : Nothing ≡ Down sent = sym (ap (λ (z : Step CascadeOut). z.out) is) ∙ out in cc)
  sent-step s same (unasked r read is) out = absurd (let no : Nothing ≡ Down sent = sym (ap (λ (z : Step CascadeOut). z.out) is) ∙ out in cc)
  sent-step s same (told r read lost is) out =
      let told_out : Down (announcement (told_epoch (hearing here r.epoch))) ≡ Down sent = sym (ap (λ (z : Step CascadeOut). z.out) is) ∙ out in
      let sent_is : announcement (told_epoch (hearing here r.epoch)) ≡ sent = cc in
      let now_epoch : told_epoch (hearing here r.epoch) ≡ epoch = epoch-here s r same (ap (λ (z : Step CascadeOut). z.cascade.base) is) (ap (λ (z : Step CascadeOut). z.cascade.last) is) in
      sent_announcement (
        sym now_epoch ∙ epoch-anew here r.epoch lost,
        sym sent_is ∙ ap (λ (n : ℕ). record {
          peer = record { 0 = v4_octets 224 0 0 1 };
          port = 5350;
          door = 0;
          octets = success_text 0 n Announce [];
        }) now_epoch,
      )
  sent-step s same (matched r common protocol t w read body of found waits nonce is) out =
      let told_out : Down (record { peer = t.tie.client.address; port = w.port; door = w.door; octets = text_after (told_epoch (hearing here r.epoch)) r common t.tie w }) ≡ Down sent = sym (ap (λ (z : Step CascadeOut). z.out) is) ∙ out in
      let sent_is : record { peer = t.tie.client.address; port = w.port; door = w.door; octets = text_after (told_epoch (hearing here r.epoch)) r common t.tie w } ≡ sent = cc in
      let now_epoch : told_epoch (hearing here r.epoch) ≡ epoch = epoch-here s r same (ap (λ (z : Step CascadeOut). z.cascade.base) is) (ap (λ (z : Step CascadeOut). z.cascade.last) is) in
      let stood : StandsBy b events t.tie t.waiting = All-IsIn (Stands b events) here.ties.each t stands-here (find-some (has_local protocol common.internal) here.ties.each t found).0 in
      let asked_it : IsAsked b events t.tie w = subst (StandsBy b events t.tie) waits stood in
      sent-by r common protocol t w read body of found asked_it nonce (told_epoch (hearing here r.epoch)) now_epoch (is_success r.code) (r.lifetime == 0) refl refl (sym sent_is)
  sent-step s same (tried r common protocol t w local read found waits next is) out = absurd (let no : Up (again_text here.key here.own t.tie w local) ≡ Down sent = sym (ap (λ (z : Step CascadeOut). z.out) is) ∙ out in cc)

pub sent-is-told : SentIsTold
sent-is-told b events d now sent out = sent-step b events d now sent (on_server (run (begun b) events) d now) refl (server-deed (run (begun b) events) d now) out

-- ---- replies of its own

module _ (b : Beginning) (events : List Event) (d : Datagram) (now : ℕ) (sent : Datagram) where
  abbrev owner : Cascade
  owner = at (run (begun b) events) now

  abbrev own_epoch : ℕ
  own_epoch = epoch_after b.server b.start (events ++ Client d now ∷ [])

  epoch-own : (s : Step ProxyOut) → on_client (run (begun b) events) d now ≡ s → s.cascade ≡ owner → told_epoch owner ≡ own_epoch
  epoch-own s same is = ap told_epoch (sym is) ∙ ap (λ (z : Step ProxyOut). told_epoch z.cascade) (sym same) ∙ epoch-more b events (Client d now)

  own-reply : (s : Step ProxyOut) (text : ℕ → List ℕ) → on_client (run (begun b) events) d now ≡ s → s ≡ record { cascade = owner; out = Reply (to_asker d (text (told_epoch owner))) } → s.out ≡ Reply sent →
      IsOwnText d.octets own_epoch (text own_epoch) → IsOwnReply d own_epoch sent
  own-reply s text same is out own =
      let told_out : Reply (to_asker d (text (told_epoch owner))) ≡ Reply sent = sym (ap (λ (z : Step ProxyOut). z.out) is) ∙ out in
      let sent_is : to_asker d (text (told_epoch owner)) ≡ sent = cc in
      record {
        octets = text own_epoch;
        told = sym sent_is ∙ ap (λ (n : ℕ). to_asker d (text n)) (epoch-own s same (ap (λ (z : Step ProxyOut). z.cascade) is));
        text = own;
      }

  own-step : (s : Step ProxyOut) → on_client (run (begun b) events) d now ≡ s → ClientDeed owner d s → s.out ≡ Reply sent → IsOwnReply d own_epoch sent
  own-step s same (silent is) out = absurd (let no = sym (ap (λ (z : Step ProxyOut). z.out) is) ∙ out in cc)
  own-step s same (refused refusal is) out = own-reply s (λ n. reply_text d.octets [] (Refused refusal) n) same is out (own_refused refusal refl)
  own-step s same (announced is) out = own-reply s (λ n. reply_text d.octets [] Announced n) same is out (own_announced refl)
  own-step s same (deleted ask items is) out = own-reply s (λ n. lease_text ask.endpoint ask.nonce 0 n ask.port ask.address (repeated items)) same is out (own_gone ask (repeated items) refl)
  own-step s same (again place ask items t v found nonce is) out = absurd (let no = sym (ap (λ (z : Step ProxyOut). z.out) is) ∙ out in cc)
  own-step s same (new place ask items local v none given is) out = absurd (let no = sym (ap (λ (z : Step ProxyOut). z.out) is) ∙ out in cc)

pub replies-are-own : RepliesAreOwn
replies-are-own b events d now sent out = own-step b events d now sent (on_client (run (begun b) events) d now) refl (client-deed (run (begun b) events) d now) out
