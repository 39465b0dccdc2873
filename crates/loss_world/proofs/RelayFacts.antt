-- What the steps of a relay do to its clock and to the epoch that it heard, and which epoch its own replies carry.
use Rattle.std.specs.Prelude.{length, nat_lt}
use Rattle.std.specs.Option.{option_map}
use Rattle.std.proofs.Common.{◌≡◌, ℕ, ◌||◌, Bool, true, false, cond, List, [], Option, Some, None, refl, ap, subst, arith}
use Rattle.std.proofs.lemmas.Bool.{cond_both}
use Rattle.pcp_base.specs.declared.asks.Answer.{Answer}
use Rattle.pcp_base.specs.declared.asks.Answer.TheVariants.{Refused, Announced}
use Rattle.pcp_base.specs.declared.codes.Code.TheVariants.{NoResources}
use Rattle.pcp_base.specs.declared.datagrams.Datagram.{Datagram}
use Rattle.pcp_base.specs.Refusals.{parsed}
use Rattle.pcp_codec.specs.declared.layout.TheConstants.{MESSAGE_OCTETS}
use Rattle.pcp_options.specs.declared.options.Item.{Item}
use Rattle.pcp_options.specs.declared.responses.Response.{Response}
use Rattle.pcp_options.specs.declared.verdicts.Verdict.{Verdict}
use Rattle.pcp_options.specs.declared.verdicts.Verdict.TheVariants.{Silent, Refuse, Asked}
use Rattle.pcp_options.specs.Asking.{third_of}
use Rattle.pcp_options.specs.ReadResponses.{response_of}
use Rattle.pcp_options.specs.Replies.{reply_text}
use Rattle.pcp_options.specs.Verdicts.{verdict_of}
use Rattle.proxy_core.specs.declared.outs.ProxyOut.{ProxyOut}
use Rattle.proxy_core.specs.declared.outs.ProxyOut.TheVariants.{Nothing, Reply, Up}
use Rattle.proxy_core.specs.declared.epochs.Heard.{Heard}
use Rattle.proxy_core.specs.declared.keys.WaitingKey.{WaitingKey}
use Rattle.proxy_core.specs.declared.waits.Waiting.{Waiting}
use Rattle.proxy_core.specs.Down.{down_text}
use Rattle.pcp_base.specs.Tables.{same_address}
use Rattle.proxy_core.specs.Keys.{key_of}
use Rattle.proxy_core.specs.Everyone.{judged_by}
use Rattle.proxy_core.specs.Relays.{Relay, Step, answer_at, answered, asked, at, hearing, judged, matched, on_client, on_server, own_answer, reply_to, response_from, told_epoch, waiting_of}
use Rattle.pcp_codec.specs.Requests.{body_of, frame_of}
use Rattle.proxy_core.specs.Up.{up_body, up_items, up_key, up_text}
use Rattle.proxy_core.specs.Waits.{Waits, is_full, kept, waiting_at}
use Rattle.loss_world.proofs.EpochReads.{IsUnder, TellsAtMost, down-under, relayed-no-response, reply-under, told-most}

-- ---- datagrams of clients

-- a reply of the relay's own: it tells the last epoch that it heard, and the seconds since
pub record IsOwn (relay : Relay) (text : List ℕ) : Type 0 where
  pub heard : Heard
  pub was : relay.heard ≡ Some heard
  pub told : IsUnder text (told_epoch heard relay.last)

-- after a datagram of a client the relay heard what it had heard, and a reply is its own
pub record IsOnClient (relay : Relay) (step : Step ProxyOut) : Type 0 where
  pub heard : step.relay.heard ≡ relay.heard
  pub last : step.relay.last ≡ relay.last
  pub own : (sent : Datagram) → step.out ≡ Reply sent → IsOwn relay sent.octets
  pub up : (octets : List ℕ) → step.out ≡ Up octets → response_of octets ≡ None

own-at : (relay : Relay) (heard : Option Heard) (d : Datagram) (answer : Answer) (sent : Datagram) → relay.heard ≡ heard → answer_at heard relay.last d answer ≡ Reply sent → IsOwn relay sent.octets
own-at relay None d answer sent h e = absurd cc
own-at relay (Some x) d answer sent h e =
    let same : reply_text d.octets [] answer (told_epoch x relay.last) ≡ sent.octets = cc in
    record { heard = x; was = h; told = subst (λ t. IsUnder t (told_epoch x relay.last)) same (reply-under d.octets [] answer (told_epoch x relay.last)) }

not-up : (heard : Option Heard) (now : ℕ) (d : Datagram) (answer : Answer) (octets : List ℕ) → answer_at heard now d answer ≡ Up octets → response_of octets ≡ None
not-up None now d answer octets e = absurd cc
not-up (Some x) now d answer octets e = absurd cc

answers : (relay : Relay) (d : Datagram) (answer : Answer) → IsOnClient relay (record { relay = relay; out = own_answer relay d answer })
answers relay d answer = record { heard = refl; last = refl; own = λ sent e. own-at relay relay.heard d answer sent refl e; up = λ octets e. not-up relay.heard relay.last d answer octets e }

goes-up : (relay : Relay) (waits : Waits) (text : List ℕ) → response_of text ≡ None → IsOnClient relay (record { relay = record relay { waits = waits }; out = Up text })
goes-up relay waits text no_response =
    record { heard = refl; last = refl; own = λ sent e. absurd cc; up = λ octets e. let same : text ≡ octets = cc in subst (λ t. response_of t ≡ None) same no_response }

silent : (relay : Relay) → IsOnClient relay (record { relay = relay; out = Nothing })
silent relay = record { heard = refl; last = refl; own = λ sent e. absurd cc; up = λ octets e. absurd cc }

asks : (relay : Relay) (d : Datagram) (items : List Item) (key : Option WaitingKey) → IsOnClient relay (asked relay d items key)
asks relay d items None = answers relay d Announced
asks relay d items (Some key) =
    cond_both (is_full key relay.waits || nat_lt MESSAGE_OCTETS (length (up_text relay.key relay.own d items)))
    (record { relay = relay; out = own_answer relay d (Refused (parsed NoResources)) })
    (record { relay = record relay { waits = kept key (waiting_of d items relay.last) relay.waits }; out = Up (up_text relay.key relay.own d items) })
    (IsOnClient relay)
    (λ _. answers relay d (Refused (parsed NoResources)))
    (λ _. goes-up relay (kept key (waiting_of d items relay.last) relay.waits) (up_text relay.key relay.own d items)
    (relayed-no-response relay.own (frame_of d.octets).lifetime (up_body relay.key d.peer (body_of d.octets)) (up_items d.peer items)))

judges : (relay : Relay) (d : Datagram) (v : Verdict) → IsOnClient relay (judged relay d v)
judges relay d Silent = silent relay
judges relay d (Refuse refusal) = answers relay d (Refused refusal)
judges relay d (Asked place ask items) = asks relay d items (up_key relay.key d items)

pub on-client : (relay : Relay) (d : Datagram) (now : ℕ) → IsOnClient (at relay now) (on_client relay d now)
on-client relay d now = judges (at relay now) d (verdict_of (judged_by relay.third_party) d.peer d.octets)

-- ---- datagrams of the server

-- After a datagram from upstream the relay heard the epoch of the response, if it is one; and what it sends tells no
-- later one.
abbrev pub heard_by : Option Response → Option Heard → ℕ → Option Heard
heard_by None heard now = heard
heard_by (Some r) heard now = Some (record { epoch = r.epoch; at_ms = now })

abbrev pub Passes : Option Response → List ℕ → Type 0
Passes None text = ⊥
Passes (Some r) text = TellsAtMost text r.epoch

pub record IsOnServer (relay : Relay) (read : Option Response) (step : Step (Option Datagram)) : Type 0 where
  pub heard : step.relay.heard ≡ heard_by read relay.heard relay.last
  pub last : step.relay.last ≡ relay.last
  pub passed : (sent : Datagram) → step.out ≡ Some sent → Passes read sent.octets

itself : (d : Datagram) (r : Response) → response_of d.octets ≡ Some r → TellsAtMost d.octets r.epoch
itself d r h x k =
    let same : r ≡ x = cc in
    let e : r.epoch ≡ x.epoch = ap (λ (y : Response). y.epoch) same in
    omega (arith, e)

told-to : (r : Response) (w : Option Waiting) (sent : Datagram) → option_map (reply_to r) w ≡ Some sent → TellsAtMost sent.octets r.epoch
told-to r None sent h x k = absurd cc
told-to r (Some w) sent h x k =
    let same : down_text w.request w.added r ≡ sent.octets = cc in
    told-most sent.octets r.epoch x (subst (λ t. IsUnder t r.epoch) same (down-under w.request w.added r)) k

matches : (relay : Relay) (d : Datagram) (r : Response) (key : Option WaitingKey) → response_of d.octets ≡ Some r → IsOnServer relay (Some r) (matched (hearing relay r.epoch) d r key)
matches relay d r None h = record {
  heard = refl;
  last = refl;
  passed = λ sent e. let same : d.octets ≡ sent.octets = cc in subst (λ t. TellsAtMost t r.epoch) same (itself d r h);
}
matches relay d r (Some key) h = record { heard = refl; last = refl; passed = λ sent e. told-to r (waiting_at key relay.waits) sent e }

pub read-here : (b : Bool) (x : Option Response) (r : Response) → cond b x None ≡ Some r → x ≡ Some r
read-here true x r h = h
read-here false x r h = absurd cc

answering : (relay : Relay) (d : Datagram) (read : Option Response) → ((r : Response) → read ≡ Some r → response_of d.octets ≡ Some r) → IsOnServer relay read (answered relay d read)
answering relay d None f = record { heard = refl; last = refl; passed = λ sent e. absurd cc }
answering relay d (Some r) f = matches relay d r (key_of r.body (third_of r.items)) (f r refl)

pub on-server : (relay : Relay) (d : Datagram) (now : ℕ) → IsOnServer (at relay now) (response_from relay.server d) (on_server relay d now)
on-server relay d now = answering (at relay now) d (response_from relay.server d) (λ r h. read-here (same_address d.peer relay.server) (response_of d.octets) r h)
