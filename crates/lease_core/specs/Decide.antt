-- What is decided on an ask, in a state at a moment, and what it takes (our own).
use Rattle.std.specs.Prelude.{ℕ, ◌+◌, ◌*◌, ◌==◌, ◌&&◌, nat_le, min, not, Bool, true, false, is_none, if◌then◌else◌}
use Rattle.pcp_base.specs.declared.addresses.Address.{Address}
use Rattle.pcp_base.specs.declared.leases.TheConstants.{MOST_PORTS}
use Rattle.pcp_base.specs.declared.asks.Ask.{Ask}
use Rattle.pcp_base.specs.declared.asks.Ask.TheVariants.{Known, Announce, Map, Peer}
use Rattle.pcp_base.specs.declared.asks.Answer.TheVariants.{Refused, Announced}
use Rattle.pcp_base.specs.States.{State}
use Rattle.lease_store.specs.declared.terms.Terms.{Terms}
use Rattle.lease_core.specs.declared.decided.Decided.{Decided}
use Rattle.lease_core.specs.Answers.{answered}
use Rattle.lease_core.specs.DecideMap.{decide_map, parity_asked, size_asked}
use Rattle.lease_core.specs.DecidePeer.{decide_peer, given_port}

abbrev pub decide : Terms → State → ℕ → Ask → Decided
decide terms s m (Known refusal) = answered (Refused refusal)
decide terms s m Announce = answered Announced
decide terms s m (Map ask) = decide_map terms s m ask
decide terms s m (Peer ask) = decide_peer terms s m ask

-- ---- what it takes

-- how many look-ups are made at most, beside those of a pick
abbrev pub looks_asked : Ask → ℕ
looks_asked (Known refusal) = 0
looks_asked Announce = 0
looks_asked (Map ask) = 3
looks_asked (Peer ask) = 5

-- how many ports are asked for, of those that a lease may have
abbrev pub ports_asked : Ask → ℕ
ports_asked (Known refusal) = 0
ports_asked Announce = 0
ports_asked (Map ask) = min (size_asked ask) MOST_PORTS
ports_asked (Peer ask) = 1

-- how many of them are looked up inside: those of a set
abbrev pub inside_asked : Ask → ℕ
inside_asked ask = if nat_le (ports_asked ask) 1 then 0 else ports_asked ask

-- whether ports are picked: a lease is asked for, and no live lease gives the endpoint a port
abbrev pub is_picked : State → ℕ → Ask → Bool
is_picked s m (Known refusal) = false
is_picked s m Announce = false
is_picked s m (Map ask) =
    not (ask.lifetime == 0) && is_none (given_port s.table m ask.endpoint)
is_picked s m (Peer ask) =
    not (ask.lifetime == 0) && is_none (given_port s.table m ask.endpoint)

-- whether one port of any parity is asked for
abbrev pub asks_plain : Ask → Bool
asks_plain (Known refusal) = true
asks_plain Announce = true
asks_plain (Map ask) = ports_asked (Map ask) == 1 && is_none (parity_asked ask)
asks_plain (Peer ask) = true

-- what a pick takes at most with the look-ups inside, by what a look-up takes, and a pick alone for
-- an address, plain or not
abbrev pub picking : ℕ → (Address → Bool → ℕ) → Ask → ℕ
picking look pick (Known refusal) = 0
picking look pick Announce = 0
picking look pick (Map ask) = inside_asked (Map ask) * look
    + pick ask.endpoint.address (asks_plain (Map ask)) + ports_asked (Map ask)
picking look pick (Peer ask) =
    pick ask.endpoint.address (asks_plain (Peer ask)) + ports_asked (Peer ask)
