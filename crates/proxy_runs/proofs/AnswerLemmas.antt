-- What goes down answers what came.
use Rattle.std.proofs.Common.{◌≡◌, ℕ, ◌||◌, Bool, true, false, cond, nat_lt, List, [], ◌∷◌, ◌++◌, length, Option, None, Some, refl, sym, ◌∙◌, subst, append_assoc}
use Rattle.std.specs.Prelude.{⊤}
use Rattle.std.specs.List.{AllByRecursion}
use Rattle.pcp_base.specs.declared.addresses.Address.{Address}
use Rattle.pcp_base.specs.declared.asks.Answer.{Answer}
use Rattle.pcp_base.specs.declared.asks.Answer.TheVariants.{Refused, Announced}
use Rattle.pcp_base.specs.declared.codes.Code.TheVariants.{NoResources}
use Rattle.pcp_base.specs.declared.datagrams.Datagram.{Datagram}
use Rattle.pcp_base.specs.Refusals.{parsed}
use Rattle.pcp_codec.specs.declared.layout.TheConstants.{MESSAGE_OCTETS}
use Rattle.pcp_options.specs.declared.options.Item.{Item}
use Rattle.pcp_options.specs.declared.verdicts.Verdict.{Verdict}
use Rattle.pcp_options.specs.declared.verdicts.Verdict.TheVariants.{Silent, Refuse, Asked}
use Rattle.pcp_options.specs.Verdicts.{verdict_of}
use Rattle.proxy_core.specs.declared.epochs.Heard.{Heard}
use Rattle.proxy_core.specs.declared.keys.WaitingKey.{WaitingKey}
use Rattle.proxy_core.specs.declared.outs.ProxyOut.{ProxyOut}
use Rattle.proxy_core.specs.declared.outs.ProxyOut.TheVariants.{Nothing, Reply, Up}
use Rattle.pcp_base.specs.declared.addresses.Prefix.{Prefix}
use Rattle.proxy_core.specs.Everyone.{judged_by}
use Rattle.proxy_core.specs.Relays.{Relay, Step, answer_at, asked, at, judged, new_relay, on_client, on_server, own_answer, waiting_of}
use Rattle.proxy_core.specs.Runs.{Event, RepliesStandForPairs, next, run}
use Rattle.proxy_core.specs.Runs.Event.{Client, Server, Tick}
use Rattle.proxy_core.specs.Up.{up_key, up_text}
use Rattle.proxy_core.specs.Waits.{is_full, kept}
use Rattle.proxy_runs.specs.Answers.{Answers, DownIsAnswered, IsAnswered}
use Rattle.proxy_runs.specs.Proxying.{proxying, reply_of}
use Rattle.relay_rates.specs.declared.gates.RateGate.{RateGate}
use Rattle.relay_rates.specs.Rates.{is_told, let_on, may_pass, new_gate}
use Rattle.relay_rates.specs.Sifting.{SendsDownSifted, passing, sifted_down, sifted_for, told_next}
use Rattle.relay_runs.specs.Machines as machines
use Rattle.relay_runs.specs.Sending.{down_by, down_for}

-- ---- the relay's own reply goes to the sender

abbrev IsTo : Datagram → ProxyOut → Type 0
IsTo d Nothing = ⊤
IsTo d (Reply r) = (r.peer ≡ d.peer) × (r.port ≡ d.port) × (r.door ≡ d.door)
IsTo d (Up octets) = ⊤

own-to : (heard : Option Heard) (now : ℕ) (d : Datagram) (answer : Answer) → IsTo d (answer_at heard now d answer)
own-to None now d answer = tt
own-to (Some heard) now d answer = (refl, refl, refl)

forwarded-to : (relay : Relay) (d : Datagram) (items : List Item) (key : WaitingKey) (text : List ℕ) (b : Bool) →
    IsTo d (cond {A = Step ProxyOut} b
    (record { relay = relay; out = own_answer relay d (Refused (parsed NoResources)) })
    (record { relay = record relay { waits = kept key (waiting_of d items relay.last) relay.waits }; out = Up text })).out
forwarded-to relay d items key text true = own-to relay.heard relay.last d (Refused (parsed NoResources))
forwarded-to relay d items key text false = tt

asked-to : (relay : Relay) (d : Datagram) (items : List Item) (key : Option WaitingKey) → IsTo d (asked relay d items key).out
asked-to relay d items None = own-to relay.heard relay.last d Announced
asked-to relay d items (Some key) =
    let text = up_text relay.key relay.own d items in
    forwarded-to relay d items key text (is_full key relay.waits || nat_lt MESSAGE_OCTETS (length text))

judged-to : (relay : Relay) (d : Datagram) (v : Verdict) → IsTo d (judged relay d v).out
judged-to relay d Silent = tt
judged-to relay d (Refuse refusal) = own-to relay.heard relay.last d (Refused refusal)
judged-to relay d (Asked place ask items) = asked-to relay d items (up_key relay.key d items)

all-to : (start : Relay) (front : List Event) (d : Datagram) (now : ℕ) (out : ProxyOut) → IsTo d out → AllByRecursion (Answers start front (Client d now)) (down_by out)
all-to start front d now Nothing h = tt
all-to start front d now (Reply r) h = (h, tt)
all-to start front d now (Up octets) h = tt

-- ---- events as the run sees them

run-append : (r : Relay) (xs ys : List Event) → run r (xs ++ ys) ≡ run (run r xs) ys
run-append r [] ys = refl
run-append r (x ∷ xs) ys = run-append (next r x) xs ys

same-next : (r : Relay) (e : Event) → next r e ≡ machines.next proxying r e
same-next r (Client d now) = refl
same-next r (Server d now) = refl
same-next r (Tick now) = refl

-- ---- what goes down for one event

all-said : (start : Relay) (front : List Event) (d : Datagram) (now : ℕ) (out : Option Datagram)
    → ((sent : Datagram) → out ≡ Some sent → Answers start front (Server d now) sent) → AllByRecursion (Answers start front (Server d now)) (down_by (reply_of out))
all-said start front d now None h = tt
all-said start front d now (Some sent) h = (h sent refl, tt)

one-answered : RepliesStandForPairs → (own server : Address) (key : List ℕ) (third_party : List Prefix) (front : List Event) (e : Event) →
    AllByRecursion (Answers (new_relay own server key third_party) front e) (down_for proxying (run (new_relay own server key third_party) front) e)
one-answered law own server key third_party front (Client d now) =
    let start = new_relay own server key third_party in
    let relay = run start front in
    all-to start front d now (on_client relay d now).out (judged-to (at relay now) d (verdict_of (judged_by relay.third_party) d.peer d.octets))
one-answered law own server key third_party front (Server d now) =
    let start = new_relay own server key third_party in
    all-said start front d now (on_server (run start front) d now).out (λ sent h. law own server key third_party front d now sent h)
one-answered law own server key third_party front (Tick now) = tt

-- ---- and for all

all-append : (P : Datagram → Type 0) (xs ys : List Datagram) → AllByRecursion P xs → AllByRecursion P ys → AllByRecursion P (xs ++ ys)
all-append P [] ys h k = k
all-append P (x ∷ xs) ys h k = (h.0, all-append P xs ys h.1 k)

all-weaker : (P Q : Datagram → Type 0) (xs : List Datagram) → ((x : Datagram) → P x → Q x) → AllByRecursion P xs → AllByRecursion Q xs
all-weaker P Q [] f h = tt
all-weaker P Q (x ∷ xs) f h = (f x h.0, all-weaker P Q xs f h.1)

module _ (law : RepliesStandForPairs) (own server : Address) (key : List ℕ) (third_party : List Prefix) where
  abbrev start : Relay
  start = new_relay own server key third_party

  -- what a gate lets on was sent
  let-on-all : (P : Datagram → Type 0) (told : RateGate) (out : ProxyOut) (now : ℕ) → AllByRecursion P (down_by out) → AllByRecursion P (down_by (let_on told out now))
  let-on-all P told out now h = by (is_told out) (may_pass told now)
    where
      by : (x y : Bool) → AllByRecursion P (down_by (cond x (cond y out Nothing) out))
      by true true = h
      by true false = tt
      by false y = h

  sifted-all : (P : Datagram → Type 0) (told : RateGate) (relay : Relay) (e : Event) → AllByRecursion P (down_for proxying relay e) → AllByRecursion P (sifted_for proxying told relay e)
  sifted-all P told relay (Client d now) h = h
  sifted-all P told relay (Server d now) h = let-on-all P told (reply_of (on_server relay d now).out) now h
  sifted-all P told relay (Tick now) h = h

  from-front : (told : RateGate) (front es : List Event) → AllByRecursion (IsAnswered start (front ++ es)) (sifted_down proxying told (run start front) es)
  from-front told front [] = tt
  from-front told front (e ∷ es) =
      let more : front ++ e ∷ es ≡ (front ++ e ∷ []) ++ es = sym (append_assoc front (e ∷ []) es) in
      let after : run start (front ++ e ∷ []) ≡ machines.next proxying (run start front) e = run-append start front (e ∷ []) ∙ same-next (run start front) e in
      let gate = told_next proxying told (run start front) e in
      let rest : AllByRecursion (IsAnswered start (front ++ e ∷ es)) (sifted_down proxying gate (machines.next proxying (run start front) e) es) =
      subst (λ (r : Relay). AllByRecursion (IsAnswered start (front ++ e ∷ es)) (sifted_down proxying gate r es)) after
      (subst (λ (all : List Event). AllByRecursion (IsAnswered start all) (sifted_down proxying gate (run start (front ++ e ∷ [])) es)) (sym more) (from-front gate (front ++ e ∷ []) es)) in
      all-append (IsAnswered start (front ++ e ∷ es)) (sifted_for proxying told (run start front) e) (sifted_down proxying gate (machines.next proxying (run start front) e) es)
      (sifted-all (IsAnswered start (front ++ e ∷ es)) told (run start front) e
      (all-weaker (Answers start front e) (IsAnswered start (front ++ e ∷ es)) (down_for proxying (run start front) e)
      (λ sent h. record { before = front; event = e; behind = es; came = refl; answers = h }) (one-answered law own server key third_party front e))) rest

-- behind its gates, by what it sends for what passes
pub down-answered : RepliesStandForPairs → SendsDownSifted proxying → DownIsAnswered
down-answered law sifts own server key third_party rate events =
    let start = new_relay own server key third_party in
    let passed = passing (new_gate rate) events in
    subst (AllByRecursion (IsAnswered start passed)) (sym (sifts (new_gate rate) (new_gate rate) start events)) (from-front law own server key third_party (new_gate rate) [] passed)
