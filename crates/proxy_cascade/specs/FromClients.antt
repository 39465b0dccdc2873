-- What a client's datagram makes of a cascade, and what is sent for it (RFC 6887, sections 8.2 and
-- 11.3, and RFC 7648 in role; the rules are our own).
use Rattle.std.specs.Prelude.{ℕ, ◌+◌, ◌-◌, ◌/◌, ◌^◌, ◌==◌, min, nat_le, not, bytes_eq, Bool, true, false, List, [], ◌∷◌, length, filter, Option, Some, None, unwrap_or, Result, Ok, Err, if◌then◌else◌}
use Rattle.pcp_base.specs.declared.addresses.Address.{Address}
use Rattle.pcp_base.specs.declared.addresses.Nonce.{Nonce}
use Rattle.pcp_base.specs.declared.asks.Answer.{Answer}
use Rattle.pcp_base.specs.declared.asks.Answer.TheVariants.{Refused, Announced}
use Rattle.pcp_base.specs.declared.asks.Ask.{Ask}
use Rattle.pcp_base.specs.declared.asks.Ask.TheVariants as Asks
use Rattle.pcp_base.specs.declared.asks.MapAsk.{MapAsk}
use Rattle.pcp_base.specs.declared.asks.Refusal.{Refusal}
use Rattle.pcp_base.specs.declared.codes.Code.TheVariants.{NotAuthorized, NoResources, UnsuppOpcode, UserExQuota}
use Rattle.pcp_base.specs.declared.datagrams.Datagram.{Datagram}
use Rattle.pcp_base.specs.declared.leases.Endpoint.{Endpoint}
use Rattle.pcp_base.specs.Cases.{first_case}
use Rattle.pcp_base.specs.Refusals.{parsed}
use Rattle.pcp_codec.specs.declared.requests.Body.TheVariants.{Map}
use Rattle.pcp_options.specs.declared.options.Item.{Item}
use Rattle.pcp_options.specs.declared.options.Item.TheVariants.{ThirdParty, PreferFailure, Filter, PortSet}
use Rattle.pcp_options.specs.declared.verdicts.Verdict.{Verdict}
use Rattle.pcp_options.specs.declared.verdicts.Verdict.TheVariants.{Silent, Refuse, Asked}
use Rattle.pcp_options.specs.Replies.{reply_text, success_text}
use Rattle.pcp_options.specs.Requests.{asked_common, request_with}
use Rattle.pcp_options.specs.Verdicts.{verdict_of}
use Rattle.proxy_core.specs.declared.outs.ProxyOut.{ProxyOut}
use Rattle.proxy_core.specs.declared.outs.ProxyOut.TheVariants.{Nothing, Reply, Up}
use Rattle.proxy_core.specs.Everyone.{no_address}
use Rattle.proxy_core.specs.Nonces.{upstream_nonce}
use Rattle.cascade_ties.specs.declared.locals.NoLocal.{NoLocal}
use Rattle.cascade_ties.specs.declared.locals.NoLocal.TheVariants.{Quota, NoPort}
use Rattle.cascade_ties.specs.declared.ties.Tie.{Tie}
use Rattle.cascade_ties.specs.declared.ties.Tied.{Tied}
use Rattle.cascade_ties.specs.declared.ties.Waiting.{Waiting}
use Rattle.cascade_ties.specs.Ties.{local_for, tie_of, with_change, with_tie}
use Rattle.proxy_cascade.specs.Cascades.{Cascade, Step, at, for_itself, told_epoch}

-- ---- texts

-- PREFER_FAILURE and FILTER are asked upstream, and repeated in a success
abbrev pub is_repeated : Item → Bool
is_repeated (ThirdParty a) = false
is_repeated PreferFailure = true
is_repeated (Filter f) = true
is_repeated (PortSet set) = false

abbrev pub repeated : List Item → List Item
repeated items = filter is_repeated items

-- a success for MAP, which tells an endpoint its external port and address
abbrev pub lease_text : Endpoint → Nonce → ℕ → ℕ → ℕ → Address → List Item → List ℕ
lease_text client nonce lifetime epoch external address items =
    success_text lifetime epoch (Map (asked_common client nonce external address)) items

-- the endpoint to which a request is made upstream: the local port of the cascade
abbrev pub local_endpoint : Address → Endpoint → ℕ → Endpoint
local_endpoint own client local =
    record { address = own; protocol = client.protocol; port = local }

-- Up: the request with the cascade's own address as client address, the upstream nonce, the local
-- port as internal port, and the options that are repeated
abbrev pub up_text : List ℕ → Address → MapAsk → List Item → ℕ → List ℕ
up_text key own ask items local =
    request_with own ask.lifetime
    (Map (asked_common (local_endpoint own ask.endpoint local)
    (upstream_nonce key ask.endpoint.address ask.nonce) ask.port ask.address))
    (repeated items)

-- ---- replies of the cascade's own

abbrev pub to_client : Datagram → List ℕ → ProxyOut
to_client d octets =
    Reply (record { peer = d.peer; port = d.port; door = d.door; octets = octets })

abbrev pub answered : Cascade → Datagram → Answer → Step ProxyOut
answered c d answer = record {
  cascade = c;
  out = to_client d (reply_text d.octets [] answer (told_epoch c));
}

-- a deletion of what isn't there: the suggestion of the request, and lifetime 0
abbrev pub gone : Cascade → Datagram → List Item → MapAsk → Step ProxyOut
gone c d items ask = record {
  cascade = c;
  out = to_client d
      (lease_text ask.endpoint ask.nonce 0 (told_epoch c) ask.port ask.address (repeated items));
}

-- how long a tie still lasts, in whole seconds
abbrev pub seconds_left : Tie → ℕ → ℕ
seconds_left tie now = min ((tie.until_ms - now) / 1000) (2 ^ 32 - 1)

-- the nonce is that of another request: code 2, with what is left of the tie
abbrev pub of_another : Tie → ℕ → Refusal
of_another tie now =
    record { code = NotAuthorized; parsed = true; lifetime = seconds_left tie now }

-- ---- ties

-- a request as it waits
abbrev pub waiting_of : Datagram → List Item → MapAsk → ℕ → Waiting
waiting_of d items ask now = record {
  port = d.port;
  door = d.door;
  request = d.octets;
  lifetime = ask.lifetime;
  suggested = ask.port;
  address = ask.address;
  items = repeated items;
  since_ms = now;
  tries = 0;
}

-- a new tie lasts as long as a request waits; nothing is granted yet
abbrev pub new_tie : MapAsk → ℕ → ℕ → Tie
new_tie ask local now = record {
  client = ask.endpoint;
  nonce = ask.nonce;
  local = local;
  granted = false;
  address = no_address;
  external = 0;
  until_ms = now + 60000;
}

-- a tie that is asked for again, as long as it isn't granted, lasts as a new one
abbrev pub asked_again : Tie → ℕ → Tie
asked_again tie now =
    record tie { until_ms = if tie.granted then tie.until_ms else now + 60000 }

abbrev pub tied_with : Tie → Waiting → Tied
tied_with tie waiting = record { tie = tie; waiting = Some waiting }

-- ---- MAP

-- a request goes upstream for the tie of its endpoint, in place of one that waits
abbrev pub renewed : Cascade → Datagram → List Item → MapAsk → Tie → Step ProxyOut
renewed c d items ask tie = record {
  cascade = record c {
    ties = with_change c.ties
        (tied_with (asked_again tie c.last) (waiting_of d items ask c.last));
  };
  out = Up (up_text c.key c.own ask items tie.local);
}

-- a tie is made for it
abbrev pub tied : Cascade → Datagram → List Item → MapAsk → ℕ → Step ProxyOut
tied c d items ask local = record {
  cascade = record c {
    ties = with_tie c.ties
        (tied_with (new_tie ask local c.last) (waiting_of d items ask c.last));
  };
  out = Up (up_text c.key c.own ask items local);
}

abbrev pub for_local : Cascade → Datagram → List Item → MapAsk → Result ℕ NoLocal → Step ProxyOut
for_local c d items ask (Ok local) = tied c d items ask local
for_local c d items ask (Err Quota) = answered c d (Refused (parsed UserExQuota))
for_local c d items ask (Err NoPort) = answered c d (Refused (parsed NoResources))

-- Of the cases of a table the first that applies decides.

-- a request for an endpoint without a tie
abbrev pub for_new : Cascade → Datagram → List Item → MapAsk → Step ProxyOut
for_new c d items ask = unwrap_or (first_case (
    record { applies = ask.lifetime == 0; result = gone c d items ask }
    ∷ record {
      applies = nat_le 4096 (length c.ties.each);
      result = answered c d (Refused (parsed NoResources));
    }
    ∷ [])) (for_local c d items ask (local_for c.ties ask.endpoint))

-- a request for an endpoint that has this tie
abbrev pub for_again : Cascade → Datagram → List Item → MapAsk → Tie → Step ProxyOut
for_again c d items ask tie = unwrap_or (first_case (
    record {
      applies = not (bytes_eq tie.nonce.0 ask.nonce.0);
      result = answered c d (Refused (of_another tie c.last));
    }
    ∷ [])) (renewed c d items ask tie)

abbrev pub for_map : Cascade → Datagram → List Item → MapAsk → Option Tied → Step ProxyOut
for_map c d items ask None = for_new c d items ask
for_map c d items ask (Some t) = for_again c d items ask t.tie

-- ---- all datagrams

-- ANNOUNCE is answered by the cascade itself, and PEER refused
abbrev pub asked : Cascade → Datagram → List Item → Ask → Step ProxyOut
asked c d items (Asks.Known refusal) = answered c d (Refused refusal)
asked c d items Asks.Announce = answered c d Announced
asked c d items (Asks.Map ask) = for_map c d items ask (tie_of ask.endpoint c.ties.each)
asked c d items (Asks.Peer ask) = answered c d (Refused (parsed UnsuppOpcode))

abbrev pub judged : Cascade → Datagram → Verdict → Step ProxyOut
judged c d Silent = record { cascade = c; out = Nothing }
judged c d (Refuse refusal) = answered c d (Refused refusal)
judged c d (Asked place ask items) = asked c d items ask

-- a datagram came from a client
abbrev pub on_client : Cascade → Datagram → ℕ → Step ProxyOut
on_client c d now = judged (at c now) d (verdict_of for_itself d.peer d.octets)
