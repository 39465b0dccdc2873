-- A relay, and what each call makes of it and gives (RFC 7648 in role; the rules are our own).
-- Times are in milliseconds; one that is smaller than the last counts as the last.
use Rattle.std.specs.Prelude.{ℕ, ◌+◌, ◌-◌, ◌/◌, ◌^◌, max, min, nat_lt, ◌||◌, List, [], length, Option, Some, None, if◌then◌else◌}
use Rattle.std.specs.Option.{is_none, option_map}
use Rattle.pcp_base.specs.declared.addresses.Address.{Address}
use Rattle.pcp_base.specs.declared.addresses.Prefix.{Prefix}
use Rattle.pcp_base.specs.declared.asks.Answer.{Answer}
use Rattle.pcp_base.specs.declared.asks.Answer.TheVariants.{Refused, Announced}
use Rattle.pcp_base.specs.declared.codes.Code.TheVariants.{NoResources}
use Rattle.pcp_base.specs.declared.datagrams.Datagram.{Datagram}
use Rattle.pcp_base.specs.Pairing.{v4_octets}
use Rattle.pcp_base.specs.Refusals.{parsed}
use Rattle.pcp_base.specs.Tables.{same_address}
use Rattle.pcp_codec.specs.declared.layout.TheConstants.{MESSAGE_OCTETS}
use Rattle.pcp_options.specs.declared.options.Item.{Item}
use Rattle.pcp_options.specs.declared.responses.Response.{Response}
use Rattle.pcp_options.specs.declared.verdicts.Verdict.{Verdict}
use Rattle.pcp_options.specs.declared.verdicts.Verdict.TheVariants.{Silent, Refuse, Asked}
use Rattle.pcp_options.specs.Asking.{third_of}
use Rattle.pcp_options.specs.ReadResponses.{response_of}
use Rattle.pcp_options.specs.Replies.{reply_text}
use Rattle.pcp_options.specs.Verdicts.{verdict_of}
use Rattle.proxy_core.specs.declared.outs.ProxyOut.{ProxyOut}
use Rattle.proxy_core.specs.declared.outs.ProxyOut.TheVariants.{Nothing, Reply, Up}
use Rattle.proxy_core.specs.declared.epochs.Heard.{Heard}
use Rattle.proxy_core.specs.declared.keys.WaitingKey.{WaitingKey}
use Rattle.proxy_core.specs.declared.waits.Waiting.{Waiting}
use Rattle.proxy_core.specs.Down.{down_text}
use Rattle.proxy_core.specs.Everyone.{judged_by}
use Rattle.proxy_core.specs.Keys.{key_of}
use Rattle.proxy_core.specs.Up.{up_key, up_text}
use Rattle.proxy_core.specs.Waits.{Waits, waiting_at, others, kept, is_full, still}

pub record Relay : Type 0 where
  -- its own address, by which the upstream server knows it
  pub own : Address
  -- the address of the upstream server
  pub server : Address
  -- 32 octets that no client knows
  pub key : List ℕ
  -- whose THIRD_PARTY is passed on
  pub third_party : List Prefix
  -- the last epoch that the server told, and when
  pub heard : Option Heard
  pub waits : Waits
  -- the last time
  pub last : ℕ

-- a relay that heard nothing
abbrev pub new_relay : Address → Address → List ℕ → List Prefix → Relay
new_relay own server key third_party = record {
  own = own;
  server = server;
  key = key;
  third_party = third_party;
  heard = None;
  waits = [];
  last = 0;
}

-- the relay at a time
abbrev pub at : Relay → ℕ → Relay
at relay now = record relay { last = max relay.last now }

-- what a call makes of a relay, and what it gives
pub record Step (X : Type 0) : Type 0 where
  pub relay : Relay
  pub out : X

-- ---- datagrams of clients

-- the epoch that the relay tells: the last one that it heard, and the whole seconds since
abbrev pub told_epoch : Heard → ℕ → ℕ
told_epoch heard now = min (heard.epoch + (now / 1000 - heard.at_ms / 1000)) (2 ^ 32 - 1)

abbrev pub answer_at : Option Heard → ℕ → Datagram → Answer → ProxyOut
answer_at None now d answer = Nothing
answer_at (Some heard) now d answer = Reply (record {
  peer = d.peer;
  port = d.port;
  door = d.door;
  octets = reply_text d.octets [] answer (told_epoch heard now);
})

-- the relay's own answer; it has none until it heard an epoch
abbrev pub own_answer : Relay → Datagram → Answer → ProxyOut
own_answer relay d answer = answer_at relay.heard relay.last d answer

-- a request as it waits
abbrev pub waiting_of : Datagram → List Item → ℕ → Waiting
waiting_of d items now = record {
  client = d.peer;
  port = d.port;
  door = d.door;
  request = d.octets;
  added = is_none (third_of items);
  since_ms = now;
}

-- MAP and PEER go upstream, unless too many others wait or the text is too long
abbrev pub forwarded : Relay → Datagram → List Item → WaitingKey → List ℕ → Step ProxyOut
forwarded relay d items key text =
    if is_full key relay.waits || nat_lt MESSAGE_OCTETS (length text)
    then record { relay = relay; out = own_answer relay d (Refused (parsed NoResources)) }
    else record {
      relay = record relay { waits = kept key (waiting_of d items relay.last) relay.waits };
      out = Up text;
    }

-- ANNOUNCE, which has no key, is answered by the relay itself
abbrev pub asked : Relay → Datagram → List Item → Option WaitingKey → Step ProxyOut
asked relay d items None = record { relay = relay; out = own_answer relay d Announced }
asked relay d items (Some key) = forwarded relay d items key (up_text relay.key relay.own d items)

abbrev pub judged : Relay → Datagram → Verdict → Step ProxyOut
judged relay d Silent = record { relay = relay; out = Nothing }
judged relay d (Refuse refusal) =
    record { relay = relay; out = own_answer relay d (Refused refusal) }
judged relay d (Asked place ask items) = asked relay d items (up_key relay.key d items)

-- a datagram came from a client
abbrev pub on_client : Relay → Datagram → ℕ → Step ProxyOut
on_client relay d now =
    judged (at relay now) d (verdict_of (judged_by relay.third_party) d.peer d.octets)

-- ---- datagrams of the server

-- an ANNOUNCE response goes on to all clients (RFC 6887, section 14.1)
abbrev pub announced : Datagram → Datagram
announced d = record {
  peer = record { 0 = v4_octets 224 0 0 1 };
  port = 5350;
  door = 0;
  octets = d.octets;
}

-- what a client that waits is told, by the door of its request
abbrev pub reply_to : Response → Waiting → Datagram
reply_to r w = record {
  peer = w.client;
  port = w.port;
  door = w.door;
  octets = down_text w.request w.added r;
}

-- a reply for MAP or PEER ends the request that waits for it
abbrev pub matched : Relay → Datagram → Response → Option WaitingKey → Step (Option Datagram)
matched relay d r None = record { relay = relay; out = Some (announced d) }
matched relay d r (Some key) = record {
  relay = record relay { waits = others key relay.waits };
  out = option_map (reply_to r) (waiting_at key relay.waits);
}

-- every response of the server tells an epoch
abbrev pub hearing : Relay → ℕ → Relay
hearing relay epoch = record relay { heard = Some (record { epoch = epoch; at_ms = relay.last }) }

abbrev pub answered : Relay → Datagram → Option Response → Step (Option Datagram)
answered relay d None = record { relay = relay; out = None }
answered relay d (Some r) = matched (hearing relay r.epoch) d r (key_of r.body (third_of r.items))

-- what the server says; none where the datagram isn't of the server, or is no response
abbrev pub response_from : Address → Datagram → Option Response
response_from server d = if same_address d.peer server then response_of d.octets else None

-- a datagram came from upstream
abbrev pub on_server : Relay → Datagram → ℕ → Step (Option Datagram)
on_server relay d now = answered (at relay now) d (response_from relay.server d)

-- ---- time

-- requests that waited for their whole time wait no more, and are counted
abbrev pub on_tick : Relay → ℕ → Step ℕ
on_tick relay now = record {
  relay = record (at relay now) { waits = still (max relay.last now) relay.waits };
  out = length relay.waits - length (still (max relay.last now) relay.waits);
}
