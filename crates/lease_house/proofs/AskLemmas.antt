-- What a datagram asks may be asked of the external address to which it goes.
use Rattle.std.specs.Prelude.{ℕ, ◌≡◌, ◌<◌, ◌≤◌, Bool, true, false, List, [], ◌∷◌, length, find, unwrap_or, Option, Some, None, Result, Ok, Err}
use Rattle.std.specs.List.{AllByRecursion}
use Rattle.std.specs.Option.{option_map}
use Rattle.std.proofs.Common.{refl, ap, sym, subst, ◌∙◌, arith, cond}
use Rattle.pcp_base.specs.declared.addresses.Address.{Address}
use Rattle.pcp_base.specs.declared.asks.Ask.{Ask}
use Rattle.pcp_base.specs.declared.asks.Ask.TheVariants.{Known}
use Rattle.pcp_base.specs.declared.asks.Refusal.{Refusal}
use Rattle.pcp_base.specs.declared.codes.Code.{Code}
use Rattle.pcp_base.specs.declared.configs.Config.{Config}
use Rattle.pcp_base.specs.declared.configs.Subscriber.{Subscriber}
use Rattle.pcp_base.specs.declared.datagrams.Datagram.{Datagram}
use Rattle.pcp_base.specs.Cases.{first_case}
use Rattle.pcp_base.specs.Configs.{IsConfig}
use Rattle.pcp_base.specs.Pairing.{holds, place_of}
use Rattle.pcp_codec.specs.declared.requests.Frame.{Frame}
use Rattle.pcp_codec.specs.Framing.{is_silent}
use Rattle.pcp_codec.specs.Requests.{frame_of}
use Rattle.pcp_options.specs.declared.options.Item.{Item}
use Rattle.pcp_options.specs.declared.verdicts.Verdict.{Verdict}
use Rattle.pcp_options.specs.declared.verdicts.Verdict.TheVariants.{Silent, Refuse, Asked}
use Rattle.pcp_options.specs.Asking.{ask_of, subject_of, third_of}
use Rattle.pcp_options.specs.Options.{items_of}
use Rattle.pcp_options.specs.Responses.{AreOctets}
use Rattle.pcp_options.specs.Verdicts.{asked_by, options_in, request_steps, verdict_by, verdict_of}
use Rattle.natpmp_front.specs.declared.requests.Front.TheVariants as Fronts
use Rattle.natpmp_front.specs.Requests.{is_front}
use Rattle.natpmp_front.specs.Verdicts.{ask_by, front_of, refusal_steps}
use Rattle.lease_histories.specs.DatagramAsks.{DatagramAsksAreWellFormed}
use Rattle.lease_histories.specs.Routes.{front_verdict, judged, place_by, verdict_of_datagram}
use Rattle.lease_histories.specs.Entries.{request_by}
use Rattle.lease_house.specs.declared.routes.Routed.{Routed}
use Rattle.lease_house.specs.Routings.{MayBeAsked, routed_to}

-- ---- places

row-within : (n : ℕ) (a : Address) (rows : List Subscriber) (place : ℕ) → AllByRecursion (λ s. (s.prefix.bits ≤ 128) × (s.external < n)) rows →
    place_of rows a ≡ Some place → place < n
row-within n a [] place all h = absurd cc
row-within n a (row ∷ rows) place all h = by (holds row.prefix a) refl (row-within n a rows place all.1)
  where
    by : (b : Bool) → holds row.prefix a ≡ b → (place_of rows a ≡ Some place → place < n) → place < n
    by true is later =
        let e : option_map (λ (r : Subscriber). r.external) (cond true (Some row) (find (λ (r : Subscriber). holds r.prefix a) rows)) ≡ Some place =
        ap (λ b. option_map (λ (r : Subscriber). r.external) (cond b (Some row) (find (λ (r : Subscriber). holds r.prefix a) rows))) (sym is) ∙ h in
        let same : row.external ≡ place = cc in
        subst (λ k. k < n) same all.0.1
    by false is later =
        later (ap (λ b. option_map (λ (r : Subscriber). r.external) (cond b (Some row) (find (λ (r : Subscriber). holds r.prefix a) rows))) (sym is) ∙ h)

source-within : (n : ℕ) (found : Option ℕ) → 0 < n → ((place : ℕ) → found ≡ Some place → place < n) → unwrap_or found 0 < n
source-within n None some each = some
source-within n (Some place) some each = each place refl

asked-place : (items more : List Item) (asking : Result Ask Code) (found : Option ℕ) (place : ℕ) (ask : Ask) → asked_by items asking found ≡ Asked place ask more → found ≡ Some place
asked-place items more (Err code) found place ask h = absurd cc
asked-place items more (Ok a) None place ask h = absurd cc
asked-place items more (Ok a) (Some p) place ask h = let same : p ≡ place = cc in ap (λ k. Some k) same

by-place : (config : Config) (source : Address) (frame : Frame) (items more : List Item) (refused : Option Refusal) (place : ℕ) (ask : Ask) →
    verdict_by config source frame items refused ≡ Asked place ask more → place_of config.subscribers (subject_of source (third_of items)) ≡ Some place
by-place config source frame items more (Some refusal) place ask h = absurd cc
by-place config source frame items more None place ask h =
    asked-place items more (ask_of (subject_of source (third_of items)) frame items) (place_of config.subscribers (subject_of source (third_of items))) place ask h

asked-within : (config : Config) (source : Address) (message : List ℕ) (place : ℕ) (ask : Ask) (items : List Item) → IsConfig config →
    verdict_of config source message ≡ Asked place ask items → place < length config.externals
unfolding verdict_of
asked-within config source message place ask items is h = by (is_silent message) refl
  where
    found : List Item
    found = items_of (options_in (frame_of message) message)

    refused : Option Refusal
    refused = first_case (request_steps config source message)

    by : (b : Bool) → is_silent message ≡ b → place < length config.externals
    by true silent =
        let e : Silent ≡ Asked place ask items = ap (λ b. cond b Silent (verdict_by config source (frame_of message) found refused)) (sym silent) ∙ h in
        absurd cc
    by false silent =
        let e : verdict_by config source (frame_of message) found refused ≡ Asked place ask items =
        ap (λ b. cond b Silent (verdict_by config source (frame_of message) found refused)) (sym silent) ∙ h in
        row-within (length config.externals) (subject_of source (third_of found)) config.subscribers place is.subscribers
        (by-place config source (frame_of message) found items refused place ask e)

front-place : (b : Bool) (p place : ℕ) (a ask : Ask) (items : List Item) → front_verdict (cond b Fronts.Silent (Fronts.Asked p a)) ≡ Asked place ask items → p ≡ place
front-place true p place a ask items h = absurd cc
front-place false p place a ask items h = let same : p ≡ place = cc in same

datagram-within : (config : Config) (source : Address) (message : List ℕ) (place : ℕ) (ask : Ask) (items : List Item) → IsConfig config →
    verdict_of_datagram config source message ≡ Asked place ask items → place < length config.externals
unfolding verdict_of_datagram
datagram-within config source message place ask items is h = by (is_front message) refl
  where
    found : Option ℕ
    found = place_of config.subscribers source

    front : Verdict
    front = front_verdict (front_of config source message)

    by : (b : Bool) → is_front message ≡ b → place < length config.externals
    by true here =
        let same = front-place _ (unwrap_or found 0) place (ask_by source message (first_case (refusal_steps config source found message))) ask items
        (ap (λ b. cond b front (verdict_of config source message)) (sym here) ∙ h) in
        subst (λ k. k < length config.externals) same
        (source-within (length config.externals) found is.external_count.0 (λ p at. row-within (length config.externals) source config.subscribers p is.subscribers at))
    by false none = asked-within config source message place ask items is (ap (λ b. cond b front (verdict_of config source message)) (sym none) ∙ h)

-- every datagram goes to one of the external addresses
pub route-within : (config : Config) (from : Datagram) (v : Verdict) → judged config from ≡ v → IsConfig config → place_by config from.peer v < length config.externals
route-within config from Silent is good =
    source-within (length config.externals) (place_of config.subscribers from.peer) good.external_count.0
    (λ place found. row-within (length config.externals) from.peer config.subscribers place good.subscribers found)
route-within config from (Refuse refusal) is good =
    source-within (length config.externals) (place_of config.subscribers from.peer) good.external_count.0
    (λ place found. row-within (length config.externals) from.peer config.subscribers place good.subscribers found)
route-within config from (Asked place ask items) is good =
    datagram-within config from.peer from.octets place ask items good is

-- ---- octets

long-unless : (config : Config) (source : Address) (message : List ℕ) → (verdict_of_datagram config source message ≡ Silent → ⊥) → 2 ≤ length message
unfolding verdict_of verdict_of_datagram
long-unless config source [] asks = absurd (asks refl)
long-unless config source (x ∷ []) asks = absurd (asks refl)
long-unless config source (x ∷ y ∷ more) asks = omega arith

-- ---- what is read

pub by-verdict : (config : Config) (from : Datagram) (v : Verdict) → judged config from ≡ v → IsConfig config → AreOctets from.octets → DatagramAsksAreWellFormed →
    (r : Routed) → option_map (routed_to (place_by config from.peer v)) (request_by v) ≡ Some r → MayBeAsked config from r.place r.ask
by-verdict config from Silent is good octets law r h = absurd cc
by-verdict config from (Refuse refusal) is good octets law r h =
    let made : Routed = routed_to (unwrap_or (place_of config.subscribers from.peer) 0) (record { ask = Known refusal; items = [] }) in
    let same : made ≡ r = cc in
    subst (λ (x : Routed). MayBeAsked config from x.place x.ask) same (record {
      there = source-within (length config.externals) (place_of config.subscribers from.peer) good.external_count.0
          (λ place found. row-within (length config.externals) from.peer config.subscribers place good.subscribers found);
      formed = tt;
      long = long-unless config from.peer from.octets (λ e. absurd (cc (is, e)));
    })
by-verdict config from (Asked place ask items) is good octets law r h =
    let made : Routed = routed_to place (record { ask = ask; items = items }) in
    let same : made ≡ r = cc in
    subst (λ (x : Routed). MayBeAsked config from x.place x.ask) same (record {
      there = datagram-within config from.peer from.octets place ask items good is;
      formed = law config from.peer from.octets place ask items octets is;
      long = long-unless config from.peer from.octets (λ e. absurd (cc (is, e)));
    })

-- ---- which protocol

pub front-judged : (config : Config) (source : Address) (message : List ℕ) → is_front message ≡ true → front_verdict (front_of config source message) ≡ verdict_of_datagram config source message
unfolding verdict_of_datagram
front-judged config source message h = ap (λ b. cond b (front_verdict (front_of config source message)) (verdict_of config source message)) (sym h)

pub pcp-judged : (config : Config) (source : Address) (message : List ℕ) → is_front message ≡ false → verdict_of config source message ≡ verdict_of_datagram config source message
unfolding verdict_of_datagram
pcp-judged config source message h = ap (λ b. cond b (front_verdict (front_of config source message)) (verdict_of config source message)) (sym h)
