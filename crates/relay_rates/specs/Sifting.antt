-- What passes the gates of a relay of all that comes to it (our own). Times are in milliseconds.
use Rattle.std.specs.Prelude.{◌≡◌, ℕ, ◌≤◌, ◌/◌, ◌==◌, ◌&&◌, Bool, false, List, [], ◌∷◌, ◌++◌, length, filter, if◌then◌else◌, ⊤}
use Rattle.pcp_base.specs.declared.addresses.Address.{Address}
use Rattle.pcp_base.specs.declared.datagrams.Datagram.{Datagram}
use Rattle.proxy_core.specs.Runs.{Event}
use Rattle.proxy_core.specs.Runs.Event.{Client, Server, Tick}
use Rattle.relay_rates.specs.declared.gates.RateGate.{RateGate}
use Rattle.relay_rates.specs.Rates.{gate_after, is_told, let_on, may_pass, new_gate, rated, told_after}
use Rattle.relay_runs.specs.Machines.{Machine, next}
use Rattle.relay_runs.specs.Sending.{down_by, down_for, down_for_all, up_for_all}

-- the events but for the datagrams of clients that don't pass
abbrev pub passing : RateGate → List Event → List Event
passing gate [] = []
passing gate (Client d now ∷ es) =
    if may_pass gate now then Client d now ∷ passing (gate_after gate now) es
    else passing (gate_after gate now) es
passing gate (Server d now ∷ es) = Server d now ∷ passing gate es
passing gate (Tick now ∷ es) = Tick now ∷ passing gate es

module _ {S : Type 0} (m : Machine S) where
  -- what goes down for an event, but for an announcement of upstream that a gate doesn't let on, and the
  -- gate after the event
  abbrev pub sifted_for : RateGate → S → Event → List Datagram
  sifted_for told relay (Client d now) = down_for m relay (Client d now)
  sifted_for told relay (Server d now) = down_by (let_on told (m.on_server relay d now).out now)
  sifted_for told relay (Tick now) = down_for m relay (Tick now)

  abbrev pub told_next : RateGate → S → Event → RateGate
  told_next told relay (Client d now) = told
  told_next told relay (Server d now) = told_after told (m.on_server relay d now).out now
  told_next told relay (Tick now) = told

  -- an announcement of upstream that goes on
  abbrev pub goes_on : RateGate → S → Event → Bool
  goes_on told relay (Client d now) = false
  goes_on told relay (Server d now) = is_told (m.on_server relay d now).out && may_pass told now
  goes_on told relay (Tick now) = false

  -- what goes down for events one after the other, and those of them that go on
  abbrev pub sifted_down : RateGate → S → List Event → List Datagram
  sifted_down told relay [] = []
  sifted_down told relay (e ∷ es) =
      sifted_for told relay e ++ sifted_down (told_next told relay e) (next m relay e) es

  abbrev pub going_on : RateGate → S → List Event → List Event
  going_on told relay [] = []
  going_on told relay (e ∷ es) =
      let rest = going_on (told_next told relay e) (next m relay e) es in
      if goes_on told relay e then e ∷ rest else rest

  -- a relay behind its gates sends for all that comes what it sends for what passes, but for that
  abbrev pub SendsDownSifted : Type 0
  SendsDownSifted = (gate told : RateGate) (relay : S) (events : List Event)
      → down_for_all (rated m) (record { gate = gate; told = told; relay = relay }) events
      ≡ sifted_down told relay (passing gate events)

  abbrev pub SendsUpSifted : Type 0
  SendsUpSifted = (server : Address) (gate told : RateGate) (relay : S) (events : List Event)
      → up_for_all (rated m) server (record { gate = gate; told = told; relay = relay }) events
      ≡ up_for_all m server relay (passing gate events)

-- a datagram of a client in this second
abbrev pub is_in : ℕ → Event → Bool
is_in second (Client d now) = now / 1000 == second
is_in second (Server d now) = false
is_in second (Tick now) = false

abbrev pub time_of : Event → ℕ
time_of (Client d now) = now
time_of (Server d now) = now
time_of (Tick now) = now

-- the seconds never fall, from this one on
abbrev pub AreRising : ℕ → List Event → Type 0
AreRising last [] = ⊤
AreRising last (e ∷ es) = (last ≤ time_of e / 1000) × AreRising (time_of e / 1000) es

abbrev pub RatesAreKept : Type 0
RatesAreKept = (rate second : ℕ) (events : List Event) → AreRising 0 events
    → length (filter (is_in second) (passing (new_gate rate) events)) ≤ rate

-- a datagram of upstream in this second
abbrev pub is_said_in : ℕ → Event → Bool
is_said_in second (Client d now) = false
is_said_in second (Server d now) = now / 1000 == second
is_said_in second (Tick now) = false

abbrev pub TellingIsKept : {S : Type 0} → Machine S → Type 0
TellingIsKept {S} m = (rate second : ℕ) (relay : S) (events : List Event) → AreRising 0 events
    → length (filter (is_said_in second) (going_on m (new_gate rate) relay events)) ≤ rate
