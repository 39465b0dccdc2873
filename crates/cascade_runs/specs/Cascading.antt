-- A relay beside a translator of its own as its run sees it (our own). Times are in milliseconds.
use Rattle.std.specs.Prelude.{ℕ, ◌/◌, true, List, replicate, Option, Some, None, refl, if◌then◌else◌}
use Rattle.std.specs.Coded.{Coded, code_by, coded×, coded_ℕ}
use Rattle.pcp_announce.specs.Schedules.{Schedule, after_due, begun, is_due}
use Rattle.pcp_codec.specs.declared.layout.TheConstants.{ANNOUNCE_OPCODE}
use Rattle.pcp_codec.specs.Replies.{head}
use Rattle.proxy_core.specs.declared.outs.ProxyOut.{ProxyOut}
use Rattle.proxy_core.specs.declared.outs.ProxyOut.TheVariants as ProxyOuts
use Rattle.cascade_ties.specs.declared.ties.Tied.{Tied}
use Rattle.proxy_cascade.specs.declared.outs.CascadeOut.{CascadeOut}
use Rattle.proxy_cascade.specs.declared.outs.CascadeOut.TheVariants.{Nothing, Down, Up}
use Rattle.proxy_cascade.specs.Cascades.{Cascade, cascade_code, new_cascade, on_tick, told_epoch}
use Rattle.proxy_cascade.specs.FromClients.{on_client}
use Rattle.proxy_cascade.specs.FromServers.{on_server}
use Rattle.relay_rates.specs.Rates.{Rated, rated_begin}
use Rattle.relay_runs.specs.Machines.{Machine, Move}
use Rattle.relay_words.specs.declared.asks.CascadeAsk.{CascadeAsk}

-- a cascade, and when its beginning is announced: its clients' ties were lost with the one before it
pub record Announcing : Type 0 where
  pub cascade : Cascade
  pub schedule : Schedule

-- the parts of the record, one after the other
abbrev pub announcing_code : Coded Tied → Coded Announcing
announcing_code tied =
    code_by (Cascade × (ℕ × (ℕ × (ℕ × ℕ))))
    (coded× (cascade_code tied) (coded× coded_ℕ (coded× coded_ℕ (coded× coded_ℕ coded_ℕ))))
    (λ a. (a.cascade, (a.schedule.base, (a.schedule.since, (a.schedule.made, a.schedule.last)))))
    (λ p. record {
      cascade = p.0;
      schedule =
          record { base = p.1.0; since = p.1.1.0; made = p.1.1.1.0; last = p.1.1.1.1 };
    })
    (λ a. refl)

abbrev pub with_cascade : {X : Type 0} → Announcing → Cascade → X → Move Announcing X
with_cascade a c out = record { state = record a { cascade = c }; out = out }

-- what is sent for a datagram from upstream
abbrev pub sent_of : CascadeOut → ProxyOut
sent_of Nothing = ProxyOuts.Nothing
sent_of (Down d) = ProxyOuts.Reply d
sent_of (Up octets) = ProxyOuts.Up octets

-- an announcement: the head of a success with lifetime 0 (RFC 6887, section 14.1)
abbrev pub announcement : ℕ → List ℕ
announcement epoch = head ANNOUNCE_OPCODE 0 0 epoch (replicate 12 0)

-- what is announced at a time, with the epoch that the cascade then tells
abbrev pub announced_at : Schedule → Cascade → ℕ → Option (List ℕ)
announced_at schedule c now =
    if is_due schedule now then Some (announcement (told_epoch c)) else None

abbrev pub cascading : Machine Announcing
cascading = record {
  on_client = λ a d now.
      with_cascade a (on_client a.cascade d now).cascade (on_client a.cascade d now).out;
  on_server = λ a d now.
      with_cascade a (on_server a.cascade d now).cascade (sent_of (on_server a.cascade d now).out);
  on_tick = λ a now. record {
    state = record {
      cascade = (on_tick a.cascade now).cascade;
      schedule = after_due a.schedule now;
    };
    out = announced_at a.schedule (on_tick a.cascade now).cascade now;
  };
}

-- a cascade at its beginning, which is announced as a server announces a new base: ten times
abbrev pub announcing_from : ℕ → Cascade → Announcing
announcing_from now c = record { cascade = c; schedule = begun (now / 1000) true now }

-- the cascade that a command begins at a time, behind its gates
abbrev pub cascade_of : ℕ → CascadeAsk → Rated Announcing
cascade_of now ask = rated_begin ask.more.rate (announcing_from now
    (new_cascade ask.command.relay.own ask.command.relay.server ask.command.relay.key
    ask.command.low ask.command.high now))
