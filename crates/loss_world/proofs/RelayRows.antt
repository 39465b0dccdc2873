-- Runs through two relays in a row: a client is granted a lease, and hears the announcements of a loss and of a new
-- external address.
use Rattle.std.specs.Prelude.{length, replicate, slice_get}
use Rattle.std.specs.List.{AllByRecursion}
use Rattle.std.proofs.Common.{◌≡◌, ℕ, ◌<◌, List, [], ◌∷◌, ◌++◌, Option, Some, None, refl, arith}
use Rattle.sha2.specs.Sha256.{compress, digest_bytes, first_words, hash_after, rounds, schedule, sha256}
use Rattle.pcp_options.specs.Verdicts.{verdict_of}
use Rattle.lease_histories.specs.Routes.{verdict_of_datagram}
use Rattle.lease_core.specs.DecideMap.{decide_map}
use Rattle.lease_store.specs.Lookups.{next_inside}
use Rattle.lease_store.specs.Picks.{pick}
use Rattle.client_core.specs.declared.meanings.EpochFound.TheVariants as Epochs
use Rattle.proxy_core.specs.declared.epochs.Heard.{Heard}
use Rattle.loss_world.specs.HouseLosses.{Loses, Renumbers}
use Rattle.loss_world.specs.Packets.{Origin}
use Rattle.loss_world.specs.Steps.{run}
use Rattle.loss_world.specs.Worlds.{Beginning, ClientHost, Event, IsBeginning, IsEventValue, IsRelayValue, RelayHost, RelayTerms, ToServer, ToRelay, ToClient, RelayTicks, ClientTicks, Wants, Fails, Announces, Passes, begun}
use Rattle.loss_world.proofs.RowWorld.{asking, beginning_by, found_by, held_of, host, host-value, is-beginning, over, sevens, told_to}

-- the first relay has two inner addresses; the second one asks at the second of these, also for others
abbrev first_relay : RelayTerms
first_relay = record {
  own = host 11;
  inner = host 12 ∷ host 13 ∷ [];
  server = host 1;
  key = replicate 32 7;
  third_party = (record { bits = 128; address = host 21 }) ∷ [];
}

abbrev second_relay : RelayTerms
second_relay = record {
  own = host 21;
  inner = host 22 ∷ [];
  server = host 13;
  key = replicate 32 7;
  third_party = [];
}

abbrev in_a_row : Beginning
in_a_row = record (beginning_by 1) {
  relays = first_relay ∷ second_relay ∷ [];
  clients = (record { own = host 2; server = host 22; port = 5350 }) ∷ [];
}

-- what was announced last comes to the first relay, and a second later from its second inner address to the other one
abbrev relayed_on : List Event
relayed_on = ToRelay 0 0 ∷ Passes 1000 ∷ ToRelay 1 1 ∷ []

-- a loss at 1600, which the server announces then, and again at 2201
abbrev heard : List Event
heard = Fails 0 Loses ∷ relayed_on ++ ToClient 0 0 0 ∷ Passes 600000 ∷ Announces ∷ relayed_on ++ ToClient 0 0 0 ∷ []

-- another external address at 2205
abbrev moved : List Event
moved = heard ++ Passes 3000 ∷ Fails 0 (Renumbers (host 8)) ∷ relayed_on

abbrev relay_told : Option RelayHost → Option Heard
relay_told None = None
relay_told (Some h) = h.relay.heard

pub relay-is-told : relay_told (slice_get (run (begun in_a_row) heard).relays 1) ≡ Some (record { epoch = 601; at_ms = 2202000 })
relay-is-told = refl

pub client-is-told : told_to (slice_get (run (begun in_a_row) heard).clients 0) ≡ Some (record { server = 601; seconds = 2202 })
client-is-told = refl

-- the server said so at 2201, behind one loss
abbrev said : Origin
said = record { losses = 1; sent = 2201000; epoch = 601 }

abbrev origin_of : Option ClientHost → Option Origin
origin_of None = None
origin_of (Some h) = h.origin

abbrev relay_origin : Option RelayHost → Option Origin
relay_origin None = None
relay_origin (Some h) = h.origin

pub relay-has-origin : relay_origin (slice_get (run (begun in_a_row) heard).relays 1) ≡ Some said
relay-has-origin = refl

pub client-has-origin : origin_of (slice_get (run (begun in_a_row) heard).clients 0) ≡ Some said
client-has-origin = refl

pub loss-is-found : found_by (run (begun in_a_row) moved) (slice_get (run (begun in_a_row) moved).clients 0) (slice_get (run (begun in_a_row) moved).bag 0) ≡ Epochs.Invalid
loss-is-found = refl

-- what the first one tells by its first inner address comes to nobody
abbrev aside : List Event
aside = Fails 0 Loses ∷ ToRelay 0 0 ∷ ToRelay 0 1 ∷ ToClient 0 0 0 ∷ ToClient 1 0 0 ∷ ToClient 2 0 0 ∷ []

pub none-is-told : relay_told (slice_get (run (begun in_a_row) aside).relays 1) ≡ None
none-is-told = refl

-- ---- a lease

-- the request goes up by both, and its reply down
abbrev granted : List Event
granted =
    Wants 0 None (asking 80) ∷ ClientTicks 0 0 ∷ ToRelay 0 1 ∷ ToRelay 0 0 ∷ ToServer 0 ∷ ToRelay 0 0 ∷ ToRelay 0 1
    ∷ ToClient 0 0 0 ∷ []

pub lease-is-held : held_of (slice_get (run (begun in_a_row) granted).clients 0) ≡ Some (record { address = host 9; external = 5000; count = 1; until_ms = 5200000 })
unfolding verdict_of_datagram verdict_of decide_map pick next_inside sha256 digest_bytes hash_after compress rounds schedule first_words
lease-is-held = refl

-- the reply comes a minute later, and goes on where no tick came before it
abbrev late : List Event → List Event
late ticks =
    Wants 0 None (asking 80) ∷ ClientTicks 0 0 ∷ ToRelay 0 1 ∷ ToRelay 0 0 ∷ ToServer 0 ∷ Passes 60000 ∷ ticks
    ++ ToRelay 0 0 ∷ []

pub late-goes-on : length (run (begun in_a_row) (late [])).bag ≡ 5
unfolding verdict_of_datagram verdict_of decide_map pick next_inside sha256 digest_bytes hash_after compress rounds schedule first_words
late-goes-on = refl

pub none-waits : length (run (begun in_a_row) (late (RelayTicks 0 ∷ []))).bag ≡ 4
unfolding verdict_of_datagram verdict_of decide_map pick next_inside sha256 digest_bytes hash_after compress rounds schedule first_words
none-waits = refl

-- ---- that world begins as the law asks, and its events name values

first-value : IsRelayValue first_relay
first-value = record {
  own = host-value 11 (omega arith);
  inner = (host-value 12 (omega arith), (host-value 13 (omega arith), tt));
  server = host-value 1 (omega arith);
  key = over (replicate {A = ℕ} 32 7) (sevens 32);
}

second-value : IsRelayValue second_relay
second-value = record {
  own = host-value 21 (omega arith);
  inner = (host-value 22 (omega arith), tt);
  server = host-value 13 (omega arith);
  key = over (replicate {A = ℕ} 32 7) (sevens 32);
}

pub is-beginning-in-a-row : IsBeginning in_a_row
is-beginning-in-a-row = record {
  hosts = record {
    server = is-beginning.hosts.server;
    externals = is-beginning.hosts.externals;
    relays = (first-value, (second-value, tt));
    clients = ((host-value 2 (omega arith), host-value 22 (omega arith)), tt);
  };
  openings = is-beginning.openings;
  empty = is-beginning.empty;
  past = is-beginning.past;
}

pub are-values : AllByRecursion IsEventValue moved
are-values = (tt, (tt, (tt, (tt, (tt, (tt, (tt, (tt, (tt, (tt, (tt, (tt, (host-value 8 (omega arith), (tt, (tt, (tt, tt))))))))))))))))

pub granted-values : AllByRecursion IsEventValue granted
granted-values = ((tt, (over (replicate {A = ℕ} 12 7) (sevens 12), (host-value 0 (omega arith)).1, tt)), (tt, (tt, (tt, (tt, (tt, (tt, (tt, tt))))))))
