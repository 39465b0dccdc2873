-- What waits stays what it is with each event.
use Rattle.std.proofs.Common.{◌≡◌, ℕ, max, Bool, true, false, cond, nat_lt, ◌||◌, List, length, Option, Some, None, refl, sym, subst}
use Rattle.std.specs.List.{AllByRecursion}
use Rattle.pcp_base.specs.declared.asks.Ask.{Ask}
use Rattle.pcp_base.specs.declared.asks.Answer.TheVariants.{Refused}
use Rattle.pcp_base.specs.declared.codes.Code.TheVariants.{NoResources}
use Rattle.pcp_base.specs.Refusals.{parsed}
use Rattle.pcp_base.specs.declared.datagrams.Datagram.{Datagram}
use Rattle.pcp_options.specs.declared.options.Item.{Item}
use Rattle.pcp_options.specs.declared.verdicts.Verdict.{Verdict}
use Rattle.pcp_options.specs.declared.verdicts.Verdict.TheVariants.{Silent, Refuse, Asked}
use Rattle.pcp_options.specs.Verdicts.{verdict_of}
use Rattle.pcp_codec.specs.declared.layout.TheConstants.{MESSAGE_OCTETS}
use Rattle.proxy_core.specs.declared.keys.WaitingKey.{WaitingKey}
use Rattle.proxy_core.specs.declared.outs.ProxyOut.{ProxyOut}
use Rattle.proxy_core.specs.declared.outs.ProxyOut.TheVariants.{Up}
use Rattle.pcp_base.specs.declared.addresses.Prefix.{Prefix}
use Rattle.proxy_core.specs.Everyone.{judged_by}
use Rattle.proxy_core.specs.Keys.{is_key}
use Rattle.proxy_core.specs.Relays.{Relay, Step, at, judged, asked, own_answer, waiting_of, response_from}
use Rattle.proxy_core.specs.Runs.{Event, next}
use Rattle.proxy_core.specs.Runs.Event.{Client, Server, Tick}
use Rattle.proxy_core.specs.Up.{up_key, up_text}
use Rattle.proxy_core.specs.WaitLaws.{AllAreWaiting, IsWaiting, WaitsAreKept}
use Rattle.proxy_core.specs.Waits.{is_full, kept}
use Rattle.proxy_core.proofs.RunLemmas.{all-removed, all-still, answered-all, same-next}

module _ (relay : Relay) (d : Datagram) where
  abbrev Kept : Step ProxyOut → Type 0
  Kept step = AllByRecursion (IsWaiting relay.third_party relay.key) step.relay.waits

  kept-forwarded : (place : ℕ) (ask : Ask) (items : List Item) (k : WaitingKey) (b : Bool) → AllAreWaiting relay →
      verdict_of (judged_by relay.third_party) d.peer d.octets ≡ Asked place ask items → up_key relay.key d items ≡ Some k →
      Kept (cond {A = Step ProxyOut} b
      (record { relay = relay; out = own_answer relay d (Refused (parsed NoResources)) })
      (record { relay = record relay { waits = kept k (waiting_of d items relay.last) relay.waits }; out = Up (up_text relay.key relay.own d items) }))
  kept-forwarded place ask items k true all v h = all
  kept-forwarded place ask items k false all v h = (
    record { place = place; ask = ask; items = items; judged = v; keyed = h; added = refl },
    all-removed (IsWaiting relay.third_party relay.key) (is_key k) relay.waits all,
  )

  kept-asked : (place : ℕ) (ask : Ask) (items : List Item) (k : Option WaitingKey) → AllAreWaiting relay →
      verdict_of (judged_by relay.third_party) d.peer d.octets ≡ Asked place ask items → up_key relay.key d items ≡ k → Kept (asked relay d items k)
  kept-asked place ask items None all v h = all
  kept-asked place ask items (Some k) all v h =
      kept-forwarded place ask items k (is_full k relay.waits || nat_lt MESSAGE_OCTETS (length (up_text relay.key relay.own d items))) all v h

  kept-judged : (v : Verdict) → AllAreWaiting relay → verdict_of (judged_by relay.third_party) d.peer d.octets ≡ v → Kept (judged relay d v)
  kept-judged Silent all is = all
  kept-judged (Refuse r) all is = all
  kept-judged (Asked place ask items) all is = kept-asked place ask items (up_key relay.key d items) all is refl

kept-next : (relay : Relay) (event : Event) → AllAreWaiting relay → AllByRecursion (IsWaiting relay.third_party relay.key) (next relay event).waits
kept-next relay (Client d now) all = kept-judged (at relay now) d (verdict_of (judged_by relay.third_party) d.peer d.octets) all refl
kept-next relay (Server d now) all = answered-all (IsWaiting relay.third_party relay.key) (at relay now) d (response_from relay.server d) all
kept-next relay (Tick now) all = all-still (IsWaiting relay.third_party relay.key) (max relay.last now) relay.waits all

pub waits-kept : WaitsAreKept
waits-kept relay event all =
    let same = same-next relay event in (
      record { own = same.own; server = same.server; key = same.key; third_party = same.third_party },
      subst (λ (prefixes : List Prefix). AllByRecursion (IsWaiting prefixes (next relay event).key) (next relay event).waits) (sym same.third_party)
          (subst (λ (key : List ℕ). AllByRecursion (IsWaiting relay.third_party key) (next relay event).waits) (sym same.key) (kept-next relay event all)),
    )
