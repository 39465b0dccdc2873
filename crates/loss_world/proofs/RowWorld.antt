-- Runs: a client hears an error and its epoch, all leases are lost, and it hears the next epoch; a client is granted a
-- lease, and hears of its new address.
use Rattle.std.specs.Prelude.{replicate, slice_get}
use Rattle.std.specs.List.{AllByRecursion}
use Rattle.std.proofs.Common.{◌≡◌, ℕ, zero, suc, ◌<◌, true, false, List, [], ◌∷◌, Option, Some, None, refl, arith}
use Rattle.pcp_base.specs.declared.addresses.Address.{Address}
use Rattle.pcp_base.specs.declared.asks.Ask.{Ask}
use Rattle.pcp_base.specs.declared.asks.Ask.TheVariants as Asks
use Rattle.pcp_base.specs.declared.configs.Orders.TheVariants.{Both}
use Rattle.pcp_base.specs.declared.leases.Protocol.TheVariants as Protocols
use Rattle.pcp_base.specs.Configs.{IsConfig}
use Rattle.pcp_base.specs.Reached.{IsReached}
use Rattle.pcp_base.specs.States.{empty_state}
use Rattle.pcp_base.proofs.ApplyLaws.{IsReached-empty}
use Rattle.pcp_options.specs.Responses.{AreOctets}
use Rattle.client_core.specs.declared.meanings.EpochFound.{EpochFound}
use Rattle.client_core.specs.declared.meanings.EpochFound.TheVariants as Epochs
use Rattle.pcp_options.specs.Verdicts.{verdict_of}
use Rattle.lease_histories.specs.Routes.{verdict_of_datagram}
use Rattle.lease_core.specs.DecideMap.{decide_map}
use Rattle.lease_store.specs.Lookups.{next_inside}
use Rattle.lease_store.specs.Picks.{pick}
use Rattle.client_core.specs.declared.epochs.HeardEpoch.{HeardEpoch}
use Rattle.client_core.specs.declared.events.HeldLease.{HeldLease}
use Rattle.client_core.specs.Clients.{heard_of, held_by}
use Rattle.loss_world.specs.HouseLosses.{Loses, Renumbers}
use Rattle.loss_world.specs.Packets.{Packet, datagram_of}
use Rattle.loss_world.specs.Steps.{run}
use Rattle.loss_world.specs.Worlds.{Beginning, ClientHost, Event, IsAddressValue, IsBeginning, IsEventValue, World, ToServer, ToClient, ClientTicks, Wants, Fails, Passes, begun}

abbrev pub host : ℕ → Address
host n = record { 0 = 0 ∷ 0 ∷ 0 ∷ 0 ∷ 0 ∷ 0 ∷ 0 ∷ 0 ∷ 0 ∷ 0 ∷ 255 ∷ 255 ∷ 10 ∷ 0 ∷ 0 ∷ n ∷ [] }

abbrev pub asking : ℕ → Ask
asking port = Asks.Map (record {
  endpoint = record { address = host 2; protocol = Protocols.Tcp; port = port };
  nonce = record { 0 = replicate 12 7 };
  lifetime = 3600;
  port = 0;
  address = host 0;
  prefer = false;
  set = None;
  filters = [];
})

-- a server with one external port, and so much quota; without any each request is refused. All may ask for others.
abbrev pub beginning_by : ℕ → Beginning
beginning_by quota = record {
  clock = 1600000;
  server = host 1;
  config = record {
    quota = quota;
    lifetime_min = 120;
    lifetime_max = 86400;
    third_party = (record { bits = 0; address = host 0 }) ∷ [];
    externals = (record { address = host 9; low = 5000; high = 5000 }) ∷ [];
    subscribers = (record { prefix = record { bits = 0; address = host 0 }; external = 0 }) ∷ [];
    listen = [];
    orders = Both;
  };
  openings = (record empty_state { base = 1000; address = Some (host 9); last = 1000; started = true }) ∷ [];
  relays = [];
  clients = (record { own = host 2; server = host 1; port = 5350 }) ∷ [];
}

abbrev beginning : Beginning
beginning = beginning_by 0

-- its first reply tells 600 at 1600
abbrev first : List Event
first = Wants 0 None (asking 80) ∷ ClientTicks 0 0 ∷ ToServer 0 ∷ ToClient 0 0 0 ∷ []

-- a loss at 2000, and a request for a second want at 2003
abbrev both : List Event
both =
    Wants 0 None (asking 80) ∷ ClientTicks 0 0 ∷ ToServer 0 ∷ ToClient 0 0 0 ∷ Passes 400000 ∷ Fails 0 Loses ∷ Passes 3000
    ∷ Wants 0 None (asking 81) ∷ ClientTicks 0 0 ∷ ToServer 0 ∷ []

abbrev pub told_to : Option ClientHost → Option HeardEpoch
told_to None = None
told_to (Some h) = h.client.heard

-- what the packet that was sent last is to the client
abbrev pub found_by : World → Option ClientHost → Option Packet → EpochFound
found_by w None p = Epochs.Unread
found_by w (Some h) None = Epochs.Unread
found_by w (Some h) (Some p) = (heard_of h.client (datagram_of p) w.clock).epoch

pub first-is-told : told_to (slice_get (run (begun beginning) first).clients 0) ≡ Some (record { server = 600; seconds = 1600 })
unfolding verdict_of_datagram verdict_of decide_map
first-is-told = refl

pub second-is-found : found_by (run (begun beginning) both) (slice_get (run (begun beginning) both).clients 0) (slice_get (run (begun beginning) both).bag 0) ≡ Epochs.Invalid
unfolding verdict_of_datagram verdict_of decide_map
second-is-found = refl

abbrev pub held_of : Option ClientHost → Option HeldLease
held_of None = None
held_of (Some h) = held_by h.client 0

pub lease-is-held : held_of (slice_get (run (begun (beginning_by 1)) first).clients 0) ≡ Some (record { address = host 9; external = 5000; count = 1; until_ms = 5200000 })
unfolding verdict_of_datagram verdict_of decide_map pick next_inside
lease-is-held = refl

-- its external address changes, and the client hears so: the update was sent behind the announcement
abbrev moved : List Event
moved = Wants 0 None (asking 80) ∷ ClientTicks 0 0 ∷ ToServer 0 ∷ ToClient 0 0 0 ∷ Fails 0 (Renumbers (host 8)) ∷ ToClient 1 0 0 ∷ []

pub lease-is-moved : held_of (slice_get (run (begun (beginning_by 1)) moved).clients 0) ≡ Some (record { address = host 8; external = 5000; count = 1; until_ms = 5200000 })
unfolding verdict_of_datagram verdict_of decide_map pick next_inside
lease-is-moved = refl

-- ---- that world begins as the law asks, and its events name values

pub over : (xs : List ℕ) → AllByRecursion (λ x. x < 256) xs → AreOctets xs
over [] h i = omega arith
over (x ∷ xs) h zero = h.0
over (x ∷ xs) h (suc i) = over xs h.1 i

host-octets : (n : ℕ) → n < 256 → AllByRecursion (λ x. x < 256) (host n).0
host-octets n h = (
  omega arith,
  (omega arith, (omega arith, (omega arith, (omega arith, (omega arith, (omega arith, (omega arith, (omega arith, (omega arith, (omega arith, (omega arith, (omega arith, (omega arith, (omega arith, (h, tt))))))))))))))),
)

pub host-value : (n : ℕ) → n < 256 → IsAddressValue (host n)
host-value n h = (refl, over (host n).0 (host-octets n h))

begun-state : IsReached (record empty_state { base = 1000; address = Some (host 9); last = 1000; started = true })
begun-state =
    let sound = IsReached-empty.sound in
    record {
      sound = record { table = sound.table; ordered = sound.ordered; unowned = sound.unowned };
      maps = tt;
      peers = tt;
      ends = tt;
      base = omega arith;
      last = omega arith;
    }

config-is : IsConfig (beginning_by 1).config
config-is = record {
  quota = (omega arith, omega arith);
  lifetime_min = omega arith;
  lifetimes = omega arith;
  lifetime_max = omega arith;
  third_party_count = omega arith;
  third_party = (omega arith, tt);
  external_count = (omega arith, omega arith);
  externals = (record { low = omega arith; ordered = omega arith; high = omega arith }, tt);
  external_addresses = (tt, tt);
  subscriber_count = omega arith;
  subscribers = ((omega arith, omega arith), tt);
  listen_count = omega arith;
  listen = tt;
  listen_different = tt;
}

pub is-beginning : IsBeginning (beginning_by 1)
is-beginning = record {
  hosts = record {
    server = host-value 1 (omega arith);
    externals = (host-value 9 (omega arith), tt);
    relays = tt;
    clients = ((host-value 2 (omega arith), host-value 1 (omega arith)), tt);
  };
  openings = record { config_is = config-is; count = refl; reached = (begun-state, tt); started = (refl, tt) };
  empty = (refl, tt);
  past = (omega arith, tt);
}

pub sevens : (n : ℕ) → AllByRecursion (λ x. x < 256) (replicate {A = ℕ} n 7)
sevens zero = tt
sevens (suc n) = (omega arith, sevens n)

pub are-values : AllByRecursion IsEventValue moved
are-values = ((tt, (over (replicate {A = ℕ} 12 7) (sevens 12), (host-value 0 (omega arith)).1, tt)), (tt, (tt, (tt, (host-value 8 (omega arith), (tt, tt))))))
