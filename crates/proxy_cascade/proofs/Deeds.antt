-- What each call did, by the case that decided.
use Rattle.std.proofs.Common.{◌≡◌, ℕ, ◌-◌, ◌==◌, nat_le, Bool, true, false, not, cond, List, length, Option, Some, None, Result, Ok, Err, unwrap_or, refl}
use Rattle.std.specs.Str.{bytes_eq}
use Rattle.std.proofs.lemmas.Bool.{not-false}
use Rattle.pcp_base.specs.declared.asks.Ask.{Ask}
use Rattle.pcp_base.specs.declared.asks.Ask.TheVariants as Asks
use Rattle.pcp_base.specs.declared.asks.Answer.TheVariants.{Announced, Refused}
use Rattle.pcp_base.specs.declared.asks.MapAsk.{MapAsk}
use Rattle.pcp_base.specs.declared.asks.Refusal.{Refusal}
use Rattle.pcp_base.specs.declared.codes.Code.TheVariants.{NoResources, UnsuppOpcode, UserExQuota}
use Rattle.pcp_base.specs.declared.datagrams.Datagram.{Datagram}
use Rattle.pcp_base.specs.declared.leases.Protocol.{Protocol}
use Rattle.pcp_base.specs.Protocols.{protocol_of}
use Rattle.pcp_base.specs.Refusals.{parsed}
use Rattle.pcp_codec.specs.declared.requests.Body.{Body}
use Rattle.pcp_codec.specs.declared.requests.Body.TheVariants.{Announce, Map, Peer}
use Rattle.pcp_codec.specs.declared.requests.Common.{Common}
use Rattle.pcp_options.specs.declared.options.Item.{Item}
use Rattle.pcp_options.specs.declared.responses.Response.{Response}
use Rattle.pcp_options.specs.declared.verdicts.Verdict.{Verdict}
use Rattle.pcp_options.specs.declared.verdicts.Verdict.TheVariants.{Silent, Refuse, Asked}
use Rattle.pcp_options.specs.Verdicts.{verdict_of}
use Rattle.proxy_core.specs.declared.outs.ProxyOut.{ProxyOut}
use Rattle.proxy_core.specs.declared.outs.ProxyOut.TheVariants.{Nothing}
use Rattle.proxy_core.specs.Relays.{response_from}
use Rattle.cascade_ties.specs.declared.locals.NoLocal.{NoLocal}
use Rattle.cascade_ties.specs.declared.locals.NoLocal.TheVariants.{Quota, NoPort}
use Rattle.cascade_ties.specs.declared.ties.Tied.{Tied}
use Rattle.cascade_ties.specs.declared.ties.Waiting.{Waiting}
use Rattle.cascade_ties.specs.Ties.{local_for, tie_at, tie_of}
use Rattle.proxy_cascade.specs.Cascades.{Cascade, Step, at, for_itself, told_epoch}
use Rattle.proxy_cascade.specs.FromClients.{answered, asked, for_again, for_local, for_map, for_new, gone, judged, of_another, on_client, renewed, tied}
use Rattle.proxy_cascade.specs.FromServers.{announcement, for_body, for_next, for_protocol, for_tie, for_tied, for_waiting, heard_from, hearing, is_asked_by, keeps_epoch, next_local, on_server, settled, still_waits, unmatched}
use Rattle.proxy_cascade.specs.declared.outs.CascadeOut.{CascadeOut}
use Rattle.proxy_cascade.specs.declared.outs.CascadeOut.TheVariants as Outs
use Rattle.proxy_cascade.specs.declared.outs.CascadeOut.TheVariants.{Down}

-- ---- datagrams of clients

pub data ClientDeed (c : Cascade) (d : Datagram) (step : Step ProxyOut) : Type 0 where
  silent : step ≡ record { cascade = c; out = Nothing } → ClientDeed c d step
  refused : (refusal : Refusal) → step ≡ answered c d (Refused refusal) → ClientDeed c d step
  announced : step ≡ answered c d Announced → ClientDeed c d step
  deleted : (ask : MapAsk) (items : List Item) → step ≡ gone c d items ask → ClientDeed c d step
  again : (place : ℕ) (ask : MapAsk) (items : List Item) (t : Tied)
      → verdict_of for_itself d.peer d.octets ≡ Asked place (Asks.Map ask) items → tie_of ask.endpoint c.ties.each ≡ Some t
      → bytes_eq t.tie.nonce.0 ask.nonce.0 ≡ true → step ≡ renewed c d items ask t.tie → ClientDeed c d step
  new : (place : ℕ) (ask : MapAsk) (items : List Item) (local : ℕ)
      → verdict_of for_itself d.peer d.octets ≡ Asked place (Asks.Map ask) items → tie_of ask.endpoint c.ties.each ≡ None
      → local_for c.ties ask.endpoint ≡ Ok local → step ≡ tied c d items ask local → ClientDeed c d step

module _ (c : Cascade) (d : Datagram) where
  module _ (place : ℕ) (ask : MapAsk) (items : List Item) (v : verdict_of for_itself d.peer d.octets ≡ Asked place (Asks.Map ask) items) where
    deed-local : tie_of ask.endpoint c.ties.each ≡ None → (r : Result ℕ NoLocal) → local_for c.ties ask.endpoint ≡ r → ClientDeed c d (for_local c d items ask r)
    deed-local none (Ok local) is = new place ask items local v none is refl
    deed-local none (Err Quota) is = refused (parsed UserExQuota) refl
    deed-local none (Err NoPort) is = refused (parsed NoResources) refl

    deed-new : tie_of ask.endpoint c.ties.each ≡ None → ClientDeed c d (for_new c d items ask)
    deed-new none = first (ask.lifetime == 0)
      where
        second : (b : Bool) → ClientDeed c d (unwrap_or (cond b (Some (answered c d (Refused (parsed NoResources)))) None) (for_local c d items ask (local_for c.ties ask.endpoint)))
        second true = refused (parsed NoResources) refl
        second false = deed-local none (local_for c.ties ask.endpoint) refl

        first : (b : Bool) → ClientDeed c d (unwrap_or (cond b (Some (gone c d items ask)) (cond (nat_le 4096 (length c.ties.each)) (Some (answered c d (Refused (parsed NoResources)))) None)) (for_local c d items ask (local_for c.ties ask.endpoint)))
        first true = deleted ask items refl
        first false = second (nat_le 4096 (length c.ties.each))

    deed-again : (t : Tied) → tie_of ask.endpoint c.ties.each ≡ Some t → ClientDeed c d (for_again c d items ask t.tie)
    deed-again t found = step (not (bytes_eq t.tie.nonce.0 ask.nonce.0)) refl
      where
        step : (b : Bool) → not (bytes_eq t.tie.nonce.0 ask.nonce.0) ≡ b → ClientDeed c d (unwrap_or (cond b (Some (answered c d (Refused (of_another t.tie c.last)))) None) (renewed c d items ask t.tie))
        step true e = refused (of_another t.tie c.last) refl
        step false e = again place ask items t v found (not-false (bytes_eq t.tie.nonce.0 ask.nonce.0) e) refl

    deed-map : (o : Option Tied) → tie_of ask.endpoint c.ties.each ≡ o → ClientDeed c d (for_map c d items ask o)
    deed-map None is = deed-new is
    deed-map (Some t) is = deed-again t is

  deed-asked : (place : ℕ) (ask : Ask) (items : List Item) → verdict_of for_itself d.peer d.octets ≡ Asked place ask items → ClientDeed c d (asked c d items ask)
  deed-asked place (Asks.Known refusal) items v = refused refusal refl
  deed-asked place Asks.Announce items v = announced refl
  deed-asked place (Asks.Map ask) items v = deed-map place ask items v (tie_of ask.endpoint c.ties.each) refl
  deed-asked place (Asks.Peer ask) items v = refused (parsed UnsuppOpcode) refl

  deed-judged : (v : Verdict) → verdict_of for_itself d.peer d.octets ≡ v → ClientDeed c d (judged c d v)
  deed-judged Silent is = silent refl
  deed-judged (Refuse refusal) is = refused refusal refl
  deed-judged (Asked place ask items) is = deed-asked place ask items is

pub client-deed : (c : Cascade) (d : Datagram) (now : ℕ) → ClientDeed (at c now) d (on_client c d now)
client-deed c d now = deed-judged (at c now) d (verdict_of for_itself d.peer d.octets) refl

-- ---- datagrams from upstream

pub data ServerDeed (c : Cascade) (d : Datagram) (step : Step CascadeOut) : Type 0 where
  unread : response_from c.server d ≡ None → step ≡ unmatched c → ServerDeed c d step
  unasked : (r : Response) → response_from c.server d ≡ Some r → step ≡ unmatched (hearing c r.epoch) → ServerDeed c d step
  told : (r : Response) → response_from c.server d ≡ Some r → keeps_epoch c.heard r.epoch c.last ≡ false
      → step ≡ record { cascade = hearing c r.epoch; out = Down (announcement (told_epoch (hearing c r.epoch))) } → ServerDeed c d step
  matched : (r : Response) (common : Common) (protocol : Protocol) (t : Tied) (w : Waiting)
      → response_from c.server d ≡ Some r → r.body ≡ Map common → protocol_of common.protocol ≡ Some protocol
      → tie_at protocol common.internal c.ties.each ≡ Some t → t.waiting ≡ Some w → is_asked_by c.key t.tie common.nonce ≡ true
      → step ≡ settled (hearing c r.epoch) r common t.tie w → ServerDeed c d step
  tried : (r : Response) (common : Common) (protocol : Protocol) (t : Tied) (w : Waiting) (local : ℕ)
      → response_from c.server d ≡ Some r → tie_at protocol common.internal c.ties.each ≡ Some t → t.waiting ≡ Some w → next_local c.ties r t.tie w ≡ Some local
      → step ≡ for_next (hearing c r.epoch) r common t.tie w (Some local) → ServerDeed c d step

-- what still waits did wait
pub waited : (now : ℕ) (o : Option Waiting) (w : Waiting) → still_waits now o ≡ Some w → o ≡ Some w
waited now None w h = absurd cc
waited now (Some v) w h = step (nat_le (now - v.since_ms) 60000) h
  where
    step : (b : Bool) → cond b (Some v) None ≡ Some w → Some v ≡ Some w
    step true k = k
    step false k = absurd cc

module _ (c : Cascade) (d : Datagram) (r : Response) (read : response_from c.server d ≡ Some r) where
  abbrev here : Cascade
  here = hearing c r.epoch

  module _ (common : Common) (body : r.body ≡ Map common) (protocol : Protocol) (of : protocol_of common.protocol ≡ Some protocol) (t : Tied) (found : tie_at protocol common.internal c.ties.each ≡ Some t) where
    deed-next : (w : Waiting) → t.waiting ≡ Some w → is_asked_by c.key t.tie common.nonce ≡ true → (o : Option ℕ) → next_local c.ties r t.tie w ≡ o → ServerDeed c d (for_next here r common t.tie w o)
    deed-next w waits nonce None is = matched r common protocol t w read body of found waits nonce refl
    deed-next w waits nonce (Some local) is = tried r common protocol t w local read found waits is refl

    deed-tie : (o : Option Waiting) → still_waits c.last t.waiting ≡ o → ServerDeed c d (for_tie here r common t.tie o)
    deed-tie None is = unasked r read refl
    deed-tie (Some w) is = step (is_asked_by c.key t.tie common.nonce) refl
      where
        step : (b : Bool) → is_asked_by c.key t.tie common.nonce ≡ b → ServerDeed c d (cond b (for_waiting here r common t.tie w) (unmatched here))
        step true e = deed-next w (waited c.last t.waiting w is) e (next_local c.ties r t.tie w) refl
        step false e = unasked r read refl

  deed-tied : (common : Common) → r.body ≡ Map common → (protocol : Protocol) → protocol_of common.protocol ≡ Some protocol → (o : Option Tied) → tie_at protocol common.internal c.ties.each ≡ o → ServerDeed c d (for_tied here r common o)
  deed-tied common body protocol of None is = unasked r read refl
  deed-tied common body protocol of (Some t) is = deed-tie common body protocol of t is (still_waits c.last t.waiting) refl

  deed-protocol : (common : Common) → r.body ≡ Map common → (o : Option Protocol) → protocol_of common.protocol ≡ o → ServerDeed c d (for_protocol here r common o)
  deed-protocol common body None is = unasked r read refl
  deed-protocol common body (Some protocol) is = deed-tied common body protocol is (tie_at protocol common.internal c.ties.each) refl

  deed-body : (body : Body) → r.body ≡ body → ServerDeed c d (for_body here r (keeps_epoch c.heard r.epoch c.last) body)
  deed-body Announce is = step (keeps_epoch c.heard r.epoch c.last) refl
    where
      step : (b : Bool) → keeps_epoch c.heard r.epoch c.last ≡ b → ServerDeed c d (record { cascade = here; out = cond b Outs.Nothing (Down (announcement (told_epoch here))) })
      step true e = unasked r read refl
      step false e = told r read e refl
  deed-body (Map common) is = deed-protocol common is (protocol_of common.protocol) refl
  deed-body (Peer common port remote) is = unasked r read refl

deed-heard : (c : Cascade) (d : Datagram) (o : Option Response) → response_from c.server d ≡ o → ServerDeed c d (heard_from c o)
deed-heard c d None is = unread is refl
deed-heard c d (Some r) is = deed-body c d r is r.body refl

pub server-deed : (c : Cascade) (d : Datagram) (now : ℕ) → ServerDeed (at c now) d (on_server c d now)
server-deed c d now = deed-heard (at c now) d (response_from c.server d) refl
