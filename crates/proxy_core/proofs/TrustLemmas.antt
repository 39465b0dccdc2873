-- What a relay does of a verdict, whosever THIRD_PARTY it passes on.
use Rattle.std.proofs.Common.{◌≡◌, ℕ, ◌||◌, max, Bool, true, false, cond, nat_lt, List, length, Option, Some, None, refl, ap, sym, ◌∙◌}
use Rattle.pcp_base.specs.declared.addresses.Prefix.{Prefix}
use Rattle.pcp_base.specs.declared.asks.Answer.TheVariants.{Refused}
use Rattle.pcp_base.specs.declared.codes.Code.TheVariants.{NoResources}
use Rattle.pcp_base.specs.declared.configs.Config.{Config}
use Rattle.pcp_base.specs.declared.datagrams.Datagram.{Datagram}
use Rattle.pcp_base.specs.Refusals.{parsed}
use Rattle.pcp_codec.specs.declared.layout.TheConstants.{MESSAGE_OCTETS}
use Rattle.pcp_options.specs.declared.options.Item.{Item}
use Rattle.pcp_options.specs.declared.verdicts.Verdict.{Verdict}
use Rattle.pcp_options.specs.declared.verdicts.Verdict.TheVariants.{Silent, Refuse, Asked}
use Rattle.pcp_options.specs.Verdicts.{verdict_of}
use Rattle.proxy_core.specs.declared.keys.WaitingKey.{WaitingKey}
use Rattle.proxy_core.specs.declared.outs.ProxyOut.{ProxyOut}
use Rattle.proxy_core.specs.declared.outs.ProxyOut.TheVariants.{Up}
use Rattle.proxy_core.specs.declared.proxies.RelayTerms.{RelayTerms}
use Rattle.proxy_core.specs.Everyone.{judged_by}
use Rattle.proxy_core.specs.Parts.{relay_of, trusting}
use Rattle.proxy_core.specs.Relays.{Relay, Step, asked, at, judged, on_client, own_answer, waiting_of}
use Rattle.proxy_core.specs.Up.{up_key, up_text}
use Rattle.proxy_core.specs.Waits.{Waits, is_full, kept}

module _ (third_party : List Prefix) where
  abbrev pub trusted : {X : Type 0} → Step X → Step X
  trusted step = record { relay = trusting third_party step.relay; out = step.out }

  forwarded-by : (relay : Relay) (d : Datagram) (items : List Item) (k : WaitingKey) (text : List ℕ) (b : Bool) →
      cond {A = Step ProxyOut} b
      (record { relay = trusting third_party relay; out = own_answer relay d (Refused (parsed NoResources)) })
      (record { relay = trusting third_party (record relay { waits = kept k (waiting_of d items relay.last) relay.waits }); out = Up text })
      ≡ trusted (cond {A = Step ProxyOut} b
      (record { relay = relay; out = own_answer relay d (Refused (parsed NoResources)) })
      (record { relay = record relay { waits = kept k (waiting_of d items relay.last) relay.waits }; out = Up text }))
  forwarded-by relay d items k text true = refl
  forwarded-by relay d items k text false = refl

  asked-by : (relay : Relay) (d : Datagram) (items : List Item) (k : Option WaitingKey) → asked (trusting third_party relay) d items k ≡ trusted (asked relay d items k)
  asked-by relay d items None = refl
  asked-by relay d items (Some k) =
      let text = up_text relay.key relay.own d items in
      forwarded-by relay d items k text (is_full k relay.waits || nat_lt MESSAGE_OCTETS (length text))

  judged-by : (relay : Relay) (d : Datagram) (v : Verdict) → judged (trusting third_party relay) d v ≡ trusted (judged relay d v)
  judged-by relay d Silent = refl
  judged-by relay d (Refuse refusal) = refl
  judged-by relay d (Asked place ask items) = asked-by relay d items (up_key relay.key d items)

  -- the same by what was found of the relay without them
  judged-so : (relay : Relay) (d : Datagram) (v : Verdict) (step : Step ProxyOut) → judged relay d v ≡ step → judged (trusting third_party relay) d v ≡ trusted step
  judged-so relay d v step is = judged-by relay d v ∙ ap trusted is

-- a datagram of a client at a time, by its verdict
pub client-so : (before terms : RelayTerms) (config : Config) (old new : Waits) (d : Datagram) (now : ℕ) (v : Verdict) (out : ProxyOut)
    → terms ≡ record before { last_ms = max before.last_ms now } → config ≡ judged_by config.third_party → v ≡ verdict_of config d.peer d.octets
    → judged (relay_of terms old) d v ≡ record { relay = relay_of terms new; out = out }
    → on_client (trusting config.third_party (relay_of before old)) d now ≡ record { relay = trusting config.third_party (relay_of terms new); out = out }
client-so before terms config old new d now v out is judges verdict step =
    let prefixes = config.third_party in
    let here : at (trusting prefixes (relay_of before old)) now ≡ trusting prefixes (relay_of terms old) =
    ap (λ t. trusting prefixes (relay_of t old)) (sym is) in
    let same : verdict_of (judged_by prefixes) d.peer d.octets ≡ v = ap (λ c. verdict_of c d.peer d.octets) (sym judges) ∙ sym verdict in
    ap (λ relay. judged relay d (verdict_of (judged_by prefixes) d.peer d.octets)) here
    ∙ ap (judged (trusting prefixes (relay_of terms old)) d) same
    ∙ judged-so prefixes (relay_of terms old) d v (record { relay = relay_of terms new; out = out }) step
