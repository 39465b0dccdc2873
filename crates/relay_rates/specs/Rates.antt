-- How many requests of clients a relay takes, and how many announcements of upstream it passes on (our
-- own). Times are in milliseconds.
use Rattle.std.specs.Prelude.{ℕ, ◌+◌, ◌-◌, ◌/◌, ◌^◌, min, Bool, false, nat_lt, if◌then◌else◌}
use Rattle.pcp_base.specs.declared.datagrams.Datagram.{Datagram}
use Rattle.pcp_base.specs.Pairing.{v4_octets}
use Rattle.pcp_base.specs.Tables.{same_address}
use Rattle.proxy_core.specs.declared.outs.ProxyOut.{ProxyOut}
use Rattle.proxy_core.specs.declared.outs.ProxyOut.TheVariants.{Nothing, Reply, Up}
use Rattle.relay_rates.specs.declared.gates.RateGate.{RateGate}
use Rattle.relay_runs.specs.Machines.{Machine, Move}

-- through which so many pass in a second, at which nothing came
abbrev pub new_gate : ℕ → RateGate
new_gate rate = record { rate = rate; second = 0; passed = 0; dropped = 0 }

-- at a time: in a later second nothing passed yet
abbrev pub at : RateGate → ℕ → RateGate
at gate now = if nat_lt gate.second (now / 1000)
    then record gate { second = now / 1000; passed = 0 } else gate

-- fewer passed in its second than may
abbrev pub is_open : RateGate → Bool
is_open gate = nat_lt gate.passed gate.rate

abbrev pub may_pass : RateGate → ℕ → Bool
may_pass gate now = is_open (at gate now)

abbrev pub counted : RateGate → RateGate
counted gate = if is_open gate then record gate { passed = gate.passed + 1 }
    else record gate { dropped = min (gate.dropped + 1) (2 ^ 64 - 1) }

abbrev pub gate_after : RateGate → ℕ → RateGate
gate_after gate now = counted (at gate now)

-- what goes to all hosts of the clients' links
abbrev pub is_told : ProxyOut → Bool
is_told Nothing = false
is_told (Reply d) = same_address d.peer (record { 0 = v4_octets 224 0 0 1 })
is_told (Up octets) = false

-- what a gate lets on at a time: all but the announcements that don't pass it, and it counts no other
abbrev pub let_on : RateGate → ProxyOut → ℕ → ProxyOut
let_on told out now = if is_told out then (if may_pass told now then out else Nothing) else out

abbrev pub told_after : RateGate → ProxyOut → ℕ → RateGate
told_after told out now = if is_told out then gate_after told now else told

-- a relay behind its gates: of its clients' datagrams, and of what goes to all of them
pub record Rated (S : Type 0) : Type 0 where
  pub gate : RateGate
  pub told : RateGate
  pub relay : S

abbrev pub rated_begin : {S : Type 0} → ℕ → S → Rated S
rated_begin rate relay =
    record { gate = new_gate rate; told = new_gate rate; relay = relay }

module _ {S : Type 0} (m : Machine S) where
  -- a datagram that passes comes to the relay, and of another nothing does
  abbrev pub taken : Rated S → Datagram → ℕ → Bool → Move (Rated S) ProxyOut
  taken s d now passes =
      if passes then record {
        state = record s { relay = (m.on_client s.relay d now).state };
        out = (m.on_client s.relay d now).out;
      } else record { state = s; out = Nothing }

  abbrev pub rated : Machine (Rated S)
  rated = record {
    on_client = λ s d now.
        taken (record s { gate = gate_after s.gate now }) d now (may_pass s.gate now);
    on_server = λ s d now. record {
      state = record s {
        told = told_after s.told (m.on_server s.relay d now).out now;
        relay = (m.on_server s.relay d now).state;
      };
      out = let_on s.told (m.on_server s.relay d now).out now;
    };
    on_tick = λ s now. record {
      state = record s { relay = (m.on_tick s.relay now).state };
      out = (m.on_tick s.relay now).out;
    };
  }
