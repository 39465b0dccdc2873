-- What waits, whatever comes to a relay (our own): each step keeps it.
use Rattle.std.specs.Prelude.{◌≡◌, ℕ, List, Some}
use Rattle.std.specs.List.{AllByRecursion}
use Rattle.std.specs.Option.{is_none}
use Rattle.pcp_base.specs.declared.addresses.Address.{Address}
use Rattle.pcp_base.specs.declared.addresses.Prefix.{Prefix}
use Rattle.pcp_base.specs.declared.asks.Ask.{Ask}
use Rattle.pcp_base.specs.declared.datagrams.Datagram.{Datagram}
use Rattle.pcp_options.specs.declared.options.Item.{Item}
use Rattle.pcp_options.specs.declared.verdicts.Verdict.TheVariants.{Asked}
use Rattle.pcp_options.specs.Asking.{third_of}
use Rattle.pcp_options.specs.Verdicts.{verdict_of}
use Rattle.proxy_core.specs.declared.keys.WaitingKey.{WaitingKey}
use Rattle.proxy_core.specs.declared.waits.Waiting.{Waiting}
use Rattle.proxy_core.specs.Everyone.{judged_by}
use Rattle.proxy_core.specs.Relays.{Relay}
use Rattle.proxy_core.specs.Runs.{Event, next}
use Rattle.proxy_core.specs.Up.{up_key}

-- the datagram that waits
abbrev pub datagram_of : Waiting → Datagram
datagram_of w =
    record { peer = w.client; port = w.port; door = w.door; octets = w.request }

-- It was judged with these options, and waits under the key of its reply: with the nonce that this
-- key makes, for the client or for the third party that it named.
pub record IsWaiting (third_party : List Prefix) (key : List ℕ) (e : WaitingKey × Waiting)
    : Type 0 where
  pub place : ℕ
  pub ask : Ask
  pub items : List Item
  pub judged : verdict_of (judged_by third_party) e.1.client e.1.request ≡ Asked place ask items
  pub keyed : up_key key (datagram_of e.1) items ≡ Some e.0
  pub added : e.1.added ≡ is_none (third_of items)

-- this holds of all that waits
abbrev pub AllAreWaiting : Relay → Type 0
AllAreWaiting relay = AllByRecursion (IsWaiting relay.third_party relay.key) relay.waits

-- a relay is as it was but for what waits, the epoch that it heard and the time
pub record IsSameRelay (old new : Relay) : Type 0 where
  pub own : new.own ≡ old.own
  pub server : new.server ≡ old.server
  pub key : new.key ≡ old.key
  pub third_party : new.third_party ≡ old.third_party

-- what holds of all that waits holds after each event
abbrev pub WaitsAreKept : Type 0
WaitsAreKept = (relay : Relay) (event : Event) → AllAreWaiting relay →
    IsSameRelay relay (next relay event) × AllAreWaiting (next relay event)
