-- A relay of THIRD_PARTY as its run sees it (our own).
use Rattle.std.specs.Prelude.{Option, Some, None}
use Rattle.pcp_base.specs.declared.datagrams.Datagram.{Datagram}
use Rattle.proxy_core.specs.declared.outs.ProxyOut.{ProxyOut}
use Rattle.proxy_core.specs.declared.outs.ProxyOut.TheVariants.{Nothing, Reply}
use Rattle.proxy_core.specs.Relays.{Relay, Step, new_relay, on_client, on_server, on_tick}
use Rattle.relay_rates.specs.Rates.{Rated, rated_begin}
use Rattle.relay_runs.specs.Machines.{Machine, Move}
use Rattle.relay_words.specs.declared.asks.ProxyAsk.{ProxyAsk}

abbrev pub move_of : {X : Type 0} → Step X → Move Relay X
move_of step = record { state = step.relay; out = step.out }

-- what is sent for a datagram from upstream: a reply, or nothing
abbrev pub reply_of : Option Datagram → ProxyOut
reply_of None = Nothing
reply_of (Some d) = Reply d

abbrev pub proxying : Machine Relay
proxying = record {
  on_client = λ relay d now. move_of (on_client relay d now);
  on_server = λ relay d now. record {
    state = (on_server relay d now).relay;
    out = reply_of (on_server relay d now).out;
  };
  -- a relay announces nothing by itself
  on_tick = λ relay now. record { state = (on_tick relay now).relay; out = None };
}

-- the relay that a command begins, behind its gates
abbrev pub relay_of : ProxyAsk → Rated Relay
relay_of ask = rated_begin ask.more.rate
    (new_relay ask.command.own ask.command.server ask.command.key ask.more.third_party)
