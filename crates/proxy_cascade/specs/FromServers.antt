-- What a datagram from upstream makes of a cascade, and what is sent for it (RFC 6887, sections 8.3,
-- 8.5 and 11.4, and RFC 7648 in role; the rules are our own).
use Rattle.std.specs.Prelude.{ℕ, ◌+◌, ◌-◌, ◌*◌, ◌/◌, ◌==◌, ◌&&◌, nat_le, nat_lt, min, not, bytes_eq, Bool, true, false, List, [], Option, Some, None, if◌then◌else◌}
use Rattle.std.specs.Option.{option_map}
use Rattle.pcp_base.specs.declared.addresses.Address.{Address}
use Rattle.pcp_base.specs.declared.addresses.Nonce.{Nonce}
use Rattle.pcp_base.specs.declared.codes.Code.{Code}
use Rattle.pcp_base.specs.declared.codes.Code.TheVariants.{NotAuthorized}
use Rattle.pcp_base.specs.declared.datagrams.Datagram.{Datagram}
use Rattle.pcp_base.specs.declared.leases.Protocol.{Protocol}
use Rattle.pcp_base.specs.Pairing.{v4_octets}
use Rattle.pcp_base.specs.Protocols.{protocol_of}
use Rattle.pcp_codec.specs.declared.requests.Body.{Body}
use Rattle.pcp_codec.specs.declared.requests.Body.TheVariants.{Announce, Map, Peer}
use Rattle.pcp_codec.specs.declared.requests.Common.{Common}
use Rattle.pcp_options.specs.declared.responses.Response.{Response}
use Rattle.pcp_options.specs.Replies.{success_text}
use Rattle.pcp_options.specs.Requests.{asked_common, request_with}
use Rattle.client_core.specs.declared.epochs.HeardEpoch.{HeardEpoch}
use Rattle.client_core.specs.EpochTests.{heard_epoch, is_valid}
use Rattle.proxy_core.specs.declared.epochs.Heard.{Heard}
use Rattle.proxy_core.specs.Down.{is_success, relayed_text}
use Rattle.proxy_core.specs.Nonces.{upstream_nonce}
use Rattle.proxy_core.specs.Relays.{response_from}
use Rattle.cascade_ties.specs.declared.ties.Tie.{Tie}
use Rattle.cascade_ties.specs.declared.ties.Tied.{Tied}
use Rattle.cascade_ties.specs.declared.ties.Waiting.{Waiting}
use Rattle.cascade_ties.specs.Ties.{Ties, tie_at, vacant_for, with_change, with_rest, without}
use Rattle.proxy_cascade.specs.declared.outs.CascadeOut.{CascadeOut}
use Rattle.proxy_cascade.specs.declared.outs.CascadeOut.TheVariants.{Nothing, Down, Up}
use Rattle.proxy_cascade.specs.Cascades.{Cascade, Step, at, told_epoch}
use Rattle.proxy_cascade.specs.FromClients.{lease_text, local_endpoint}

-- ---- epochs

-- an epoch with the second at which it was heard
abbrev pub pair_of : Heard → HeardEpoch
pair_of h = heard_epoch h.epoch (h.at_ms / 1000)

-- whether an epoch that is heard now is valid after what was heard before
abbrev pub keeps_epoch : Option Heard → ℕ → ℕ → Bool
keeps_epoch heard epoch now =
    is_valid (option_map pair_of heard) (pair_of (record { epoch = epoch; at_ms = now }))

-- every response of the server tells an epoch; one that isn't valid begins the epochs anew
abbrev pub hearing : Cascade → ℕ → Cascade
hearing c epoch = record c {
  heard = Some (record { epoch = epoch; at_ms = c.last });
  base = if keeps_epoch c.heard epoch c.last then c.base else c.last;
}

-- ---- ANNOUNCE

-- all clients are told that epochs began anew (RFC 6887, section 14.1)
abbrev pub announcement : ℕ → Datagram
announcement epoch = record {
  peer = record { 0 = v4_octets 224 0 0 1 };
  port = 5350;
  door = 0;
  octets = success_text 0 epoch Announce [];
}

-- ---- MAP

-- a request waits for a minute at most
abbrev pub still_waits : ℕ → Option Waiting → Option Waiting
still_waits now None = None
still_waits now (Some w) = if nat_le (now - w.since_ms) 60000 then Some w else None

-- the tie without what waited
abbrev pub ended : Tie → Tied
ended tie = record { tie = tie; waiting = None }

-- the lifetime that is told: a day at most
abbrev pub told_lifetime : ℕ → ℕ
told_lifetime lifetime = min lifetime 86400

-- the tie as it is granted
abbrev pub granted : Tie → Common → ℕ → ℕ → Tie
granted tie common lifetime now = record tie {
  granted = true;
  address = common.address;
  external = common.external;
  until_ms = now + 1000 * lifetime;
}

-- the local port rests, behind the tie to it, for the lifetime told: so long upstream has a lease of
-- it
abbrev pub resting : ℕ → Response → Tie → Ties → Ties
resting now r tie ts = with_rest ts tie.client.protocol tie.local (now + 1000 * r.lifetime)

-- upstream the port is leased to another nonce
abbrev pub is_taken : Code → Bool
is_taken NotAuthorized = true
is_taken other = false

-- what becomes of the ties after a success: the tie is granted, or with lifetime 0 taken away
abbrev pub ties_given : ℕ → Response → Common → Tie → Ties → Ties
ties_given now r common tie ts =
    if r.lifetime == 0 then without (resting now r tie ts) tie.client
    else resting now r tie
    (with_change ts (ended (granted tie common (told_lifetime r.lifetime) now)))

-- after an error: a tie that isn't granted goes
abbrev pub ties_left : ℕ → Response → Tie → Ties → Ties
ties_left now r tie ts =
    if tie.granted then with_change ts (ended tie)
    else without (if is_taken r.code then resting now r tie ts else ts) tie.client

-- and after all responses
abbrev pub ties_after : ℕ → Response → Common → Tie → Ties → Ties
ties_after now r common tie ts =
    if is_success r.code then ties_given now r common tie ts else ties_left now r tie ts

-- ---- another local port

-- upstream the port of a tie that isn't granted is another's, and fewer than 16 other ports were
-- asked for this request
abbrev pub is_tried_on : Response → Tie → Waiting → Bool
is_tried_on r tie w = is_taken r.code && not tie.granted && nat_lt w.tries 16

-- the local port that is asked for next; the quota was tested when the tie was made
abbrev pub next_local : Ties → Response → Tie → Waiting → Option ℕ
next_local ts r tie w = if is_tried_on r tie w then vacant_for ts tie.client else None

-- the request of that client for another local port
abbrev pub again_text : List ℕ → Address → Tie → Waiting → ℕ → List ℕ
again_text key own tie w local =
    request_with own w.lifetime
    (Map (asked_common (local_endpoint own tie.client local)
    (upstream_nonce key tie.client.address tie.nonce) w.suggested w.address)) w.items

-- the tie to that port, and the request, which waits on
abbrev pub moved : Tie → Waiting → ℕ → Tied
moved tie w local = record {
  tie = record tie { local = local };
  waiting = Some (record w { tries = w.tries + 1 });
}

-- a success: the upstream external port and address, or with lifetime 0 the client's suggestion
abbrev pub lease_after : ℕ → Response → Common → Tie → Waiting → List ℕ
lease_after epoch r common tie w =
    if r.lifetime == 0
    then lease_text tie.client tie.nonce 0 epoch w.suggested w.address w.items
    else lease_text tie.client tie.nonce (told_lifetime r.lifetime) epoch
    common.external common.address w.items

-- what the client is told: that success, or the upstream error
abbrev pub text_after : ℕ → Response → Common → Tie → Waiting → List ℕ
text_after epoch r common tie w =
    if is_success r.code then lease_after epoch r common tie w
    else relayed_text w.request r.code r.lifetime epoch

-- a response ends the wait; its reply leaves by the door of the request
abbrev pub settled : Cascade → Response → Common → Tie → Waiting → Step CascadeOut
settled c r common tie w = record {
  cascade = record c { ties = ties_after c.last r common tie c.ties };
  out = Down (record {
    peer = tie.client.address;
    port = w.port;
    door = w.door;
    octets = text_after (told_epoch c) r common tie w;
  });
}

-- or another local port is asked for at once, and the first one rests
abbrev pub for_next : Cascade → Response → Common → Tie → Waiting → Option ℕ → Step CascadeOut
for_next c r common tie w None = settled c r common tie w
for_next c r common tie w (Some local) = record {
  cascade = record c { ties = resting c.last r tie (with_change c.ties (moved tie w local)) };
  out = Up (again_text c.key c.own tie w local);
}

abbrev pub for_waiting : Cascade → Response → Common → Tie → Waiting → Step CascadeOut
for_waiting c r common tie w = for_next c r common tie w (next_local c.ties r tie w)

abbrev pub unmatched : Cascade → Step CascadeOut
unmatched c = record { cascade = c; out = Nothing }

-- whether the nonce is the one by which the tie is asked for
abbrev pub is_asked_by : List ℕ → Tie → Nonce → Bool
is_asked_by key tie nonce =
    bytes_eq (upstream_nonce key tie.client.address tie.nonce).0 nonce.0

abbrev pub for_tie : Cascade → Response → Common → Tie → Option Waiting → Step CascadeOut
for_tie c r common tie None = unmatched c
for_tie c r common tie (Some w) =
    if is_asked_by c.key tie common.nonce then for_waiting c r common tie w else unmatched c

abbrev pub for_tied : Cascade → Response → Common → Option Tied → Step CascadeOut
for_tied c r common None = unmatched c
for_tied c r common (Some t) = for_tie c r common t.tie (still_waits c.last t.waiting)

-- the tie that a response answers is that to its internal port
abbrev pub for_protocol : Cascade → Response → Common → Option Protocol → Step CascadeOut
for_protocol c r common None = unmatched c
for_protocol c r common (Some protocol) =
    for_tied c r common (tie_at protocol common.internal c.ties.each)

-- ---- all responses

-- what a response gives, where its epoch was valid or not
abbrev pub for_body : Cascade → Response → Bool → Body → Step CascadeOut
for_body c r valid Announce =
    record { cascade = c; out = if valid then Nothing else Down (announcement (told_epoch c)) }
for_body c r valid (Map common) = for_protocol c r common (protocol_of common.protocol)
for_body c r valid (Peer common port remote) = unmatched c

abbrev pub heard_from : Cascade → Option Response → Step CascadeOut
heard_from c None = unmatched c
heard_from c (Some r) =
    for_body (hearing c r.epoch) r (keeps_epoch c.heard r.epoch c.last) r.body

-- a datagram came from upstream
abbrev pub on_server : Cascade → Datagram → ℕ → Step CascadeOut
on_server c d now = heard_from (at c now) (response_from c.server d)
