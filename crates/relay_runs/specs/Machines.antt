-- A relay as its run sees it (our own): what each call makes of its state, and what the call gives.
-- Times are in milliseconds.
use Rattle.std.specs.Prelude.{ℕ, List, [], ◌∷◌, Option}
use Rattle.pcp_base.specs.declared.datagrams.Datagram.{Datagram}
use Rattle.proxy_core.specs.declared.outs.ProxyOut.{ProxyOut}
use Rattle.proxy_core.specs.Runs.{Event}
use Rattle.proxy_core.specs.Runs.Event.{Client, Server, Tick}

-- the state after a call, and what the call gives
pub record Move (S X : Type 0) : Type 0 where
  pub state : S
  pub out : X

-- What a datagram of a client does, a datagram from upstream, and a tick, which gives the octets that are
-- announced to all clients, if any are.
pub record Machine (S : Type 0) : Type 0 where
  pub on_client : S → Datagram → ℕ → Move S ProxyOut
  pub on_server : S → Datagram → ℕ → Move S ProxyOut
  pub on_tick : S → ℕ → Move S (Option (List ℕ))

module _ {S : Type 0} (m : Machine S) where
  -- the state after an event
  abbrev pub next : S → Event → S
  next s (Client d now) = (m.on_client s d now).state
  next s (Server d now) = (m.on_server s d now).state
  next s (Tick now) = (m.on_tick s now).state

  -- the state after events, the first one first
  abbrev pub run : S → List Event → S
  run s [] = s
  run s (e ∷ es) = run (next s e) es
