-- How a port is chosen for a PEER request that has no live lease (our own; for private contracts).
use Rattle.std.specs.Prelude.{ℕ, nat_le, true, false, Option, Some, None, Result, Ok, Err, if◌then◌else◌}
use Rattle.std.specs.Option.{option_map, ok_or}
use Rattle.pcp_base.specs.declared.codes.Code.{Code}
use Rattle.pcp_base.specs.declared.codes.Code.TheVariants.{NoResources, UserExQuota}
use Rattle.pcp_base.specs.declared.asks.PeerAsk.{PeerAsk}
use Rattle.pcp_base.specs.Owners.{owned}
use Rattle.pcp_base.specs.States.{State}
use Rattle.external_pool.specs.declared.asks.PickAsk.{PickAsk}
use Rattle.lease_store.specs.declared.terms.Terms.{Terms}
use Rattle.lease_store.specs.Picks.{pick}
use Rattle.lease_core.specs.declared.decided.Decided.{Decided}
use Rattle.lease_core.specs.Answers.{refused, is_full}
use Rattle.lease_core.specs.DecidePeer.{given_port, new_peer, peered}

-- what a pool is asked for
abbrev pub port_ask : PeerAsk → PickAsk
port_ask ask = record {
  internal = ask.endpoint.port;
  suggested = ask.port;
  asked = 1;
  room = 1;
  parity = None;
  must = false;
  here = true;
}

-- the pick, unless the address owns its quota
abbrev pub picked_port : Terms → State → ℕ → PeerAsk → Result ℕ Code
picked_port terms s m ask =
    if nat_le terms.quota (owned s.table m ask.endpoint.address) then Err UserExQuota
    else ok_or
    (option_map (λ run. run.start) (pick terms s m ask.endpoint ask.port None 1))
    NoResources

abbrev pub port_chosen_by : Option ℕ → Terms → State → ℕ → PeerAsk → Result ℕ Code
port_chosen_by (Some port) terms s m ask = Ok port
port_chosen_by None terms s m ask = picked_port terms s m ask

abbrev pub port_chosen : Terms → State → ℕ → PeerAsk → Result ℕ Code
port_chosen terms s m ask = port_chosen_by (given_port s.table m ask.endpoint) terms s m ask

-- a lease of the chosen port, unless there is no room for it
abbrev pub port_granted_by : Terms → State → ℕ → PeerAsk → Result ℕ Code → Decided
port_granted_by terms s m ask (Err code) = refused code
port_granted_by terms s m ask (Ok port) =
    if is_full s.table m then refused NoResources
    else peered terms m ask (new_peer terms m ask port)
