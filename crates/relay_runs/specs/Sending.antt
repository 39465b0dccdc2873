-- What a relay sends for what comes to it (RFC 7648 in role).
use Rattle.std.specs.Prelude.{ℕ, List, [], ◌∷◌, ◌++◌, Option, Some, None}
use Rattle.pcp_base.specs.declared.addresses.Address.{Address}
use Rattle.pcp_base.specs.declared.datagrams.Datagram.{Datagram}
use Rattle.pcp_base.specs.Pairing.{v4_octets}
use Rattle.proxy_core.specs.declared.outs.ProxyOut.{ProxyOut}
use Rattle.proxy_core.specs.declared.outs.ProxyOut.TheVariants.{Nothing, Reply, Up}
use Rattle.proxy_core.specs.Runs.{Event}
use Rattle.proxy_core.specs.Runs.Event.{Client, Server, Tick}
use Rattle.relay_runs.specs.Machines.{Machine, next}

-- what goes down, and up to the server, of what a datagram gives
abbrev pub down_by : ProxyOut → List Datagram
down_by Nothing = []
down_by (Reply d) = d ∷ []
down_by (Up octets) = []

abbrev pub up_by : Address → ProxyOut → List Datagram
up_by server Nothing = []
up_by server (Reply d) = []
up_by server (Up octets) =
    record { peer = server; port = 5351; door = 0; octets = octets } ∷ []

-- what is announced goes to all hosts of the clients' links, to the port at which clients hear (RFC 6887,
-- section 14.1)
abbrev pub announced : Option (List ℕ) → List Datagram
announced None = []
announced (Some octets) =
    record { peer = record { 0 = v4_octets 224 0 0 1 }; port = 5350; door = 0; octets = octets } ∷ []

module _ {S : Type 0} (m : Machine S) where
  -- what goes down for an event, and what goes up
  abbrev pub down_for : S → Event → List Datagram
  down_for s (Client d now) = down_by (m.on_client s d now).out
  down_for s (Server d now) = down_by (m.on_server s d now).out
  down_for s (Tick now) = announced (m.on_tick s now).out

  abbrev pub up_for : Address → S → Event → List Datagram
  up_for server s (Client d now) = up_by server (m.on_client s d now).out
  up_for server s (Server d now) = up_by server (m.on_server s d now).out
  up_for server s (Tick now) = []

  -- the same for events one after the other
  abbrev pub down_for_all : S → List Event → List Datagram
  down_for_all s [] = []
  down_for_all s (e ∷ es) = down_for s e ++ down_for_all (next m s e) es

  abbrev pub up_for_all : Address → S → List Event → List Datagram
  up_for_all server s [] = []
  up_for_all server s (e ∷ es) = up_for server s e ++ up_for_all server (next m s e) es
